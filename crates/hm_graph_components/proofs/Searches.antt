-- the search for what one node reaches
use Rattle.std.proofs.Common.{◌≡◌, ℕ, ◌+◌, ◌<◌, Bool, true, false, cond, not, List, [], ◌∷◌, ◌++◌, length, get_or, take, set, Contains, ◌⊎◌, ◌↔◌, inl, inr, refl, sym, ◌∙◌, arith, Vec, Global, length-append, length-set, get_or-set_same, get_or-set_other, count_by}
use Rattle.std.proofs.lemmas.Bool.{both_ways, cases_eq, cases_lt}
use Rattle.std.proofs.lemmas.List.{get_or_past, length-map}
use Rattle.std.proofs.lemmas.List.Sums.{sum_by-set}
use Rattle.std.proofs.lemmas.List.Elements.{Contains-append_left}
use Rattle.hm_graph_components.specs.Closure.{one, more}
use Rattle.hm_graph_components.specs.Digraph.{Graph, Edge, Reaches, lists}
use Rattle.hm_graph_components.specs.Marks.{IsMarked, work_left, MarksRow, MarksReached}
use Rattle.hm_graph_components.proofs.Closures.{Closure-within}
use Rattle.hm_graph_components.proofs.Members.{Contains-nil, Contains-push_cases, Contains-push_new, Contains-take_cases, Contains-take_old, Contains-take_new}

pub marked-within : (marks : List Bool) (k : ℕ) → IsMarked marks k → k < length marks
marked-within marks k marked =
    elim (cases_lt k (length marks)) [
      | inl less ↦ less
      | inr past ↦ absurd (both_ways (get_or marks k false) (get_or_past marks k false past) marked)
    ]

pub marked_set : (marks : List Bool) (y k : ℕ) → y < length marks → IsMarked (set marks y true) k ↔ (IsMarked marks k ⊎ (k ≡ y))
marked_set marks y k below =
    elim (cases_eq k y) [
      | inl same ↦ ((λ _. inr same), (λ _. rw same (get_or-set_same marks y true false below)))
      | inr other ↦
          let kept : get_or (set marks y true) k false ≡ get_or marks k false = get_or-set_other marks y k true false other in
          ((λ marked. inl (sym kept ∙ marked)), (λ either. elim either [ inl marked ↦ kept ∙ marked | inr same ↦ absurd (other same) ]))
    ]

pub MarksRow-skip : (row : List ℕ) (old new : List Bool) (waiting_old waiting_new : List ℕ) (i : ℕ) → i < length row → IsMarked new (get_or row i 0) → MarksRow (take i row) old new waiting_old waiting_new → MarksRow (take (i + 1) row) old new waiting_old waiting_new
MarksRow-skip row old new waiting_old waiting_new i below marked so_far = record {
  nodes = so_far.nodes;
  marks = λ k. (
    (λ is. elim ((so_far.marks k).0 is) [ inl was ↦ inl was | inr there ↦ inr (Contains-take_old row i 0 k below there) ]),
    (λ either. elim either [
      | inl was ↦ (so_far.marks k).1 (inl was)
      | inr there ↦ elim (Contains-take_cases row i 0 k below there) [
        | inl before ↦ (so_far.marks k).1 (inr before)
        | inr same ↦ rw same marked
      ]
    ]),
  );
  from_row = λ k there. elim (so_far.from_row k there) [ inl was ↦ inl was | inr in_row ↦ inr (Contains-take_old row i 0 k below in_row) ];
  kept = so_far.kept;
  added = λ k there. elim (Contains-take_cases row i 0 k below there) [
    | inl before ↦ so_far.added k before
    | inr same ↦
        let is : IsMarked new k = rw same marked in
        elim ((so_far.marks k).0 is) [ inl was ↦ inl was | inr before ↦ so_far.added k before ]
  ];
  work = so_far.work;
}

pub work_left-mark : (marks : List Bool) (waiting : List ℕ) (y : ℕ) → y < length marks → get_or marks y false ≡ false → work_left (set marks y true) (waiting ++ y ∷ []) ≡ work_left marks waiting
work_left-mark marks waiting y below clear =
    let fewer = sum_by-set (λ x. cond (not x) 1 0) marks y true false below in
    let at_y : count_by not (set marks y true) + 1 ≡ count_by not marks + 0 = rw clear at fewer in
    omega (arith, length-append waiting (y ∷ []), at_y)

pub MarksRow-mark : (row : List ℕ) (old new : List Bool) (waiting_old waiting_new : List ℕ) (i y : ℕ) → i < length row → y ≡ get_or row i 0 → y < length new → get_or new y false ≡ false → MarksRow (take i row) old new waiting_old waiting_new → MarksRow (take (i + 1) row) old (set new y true) waiting_old (waiting_new ++ y ∷ [])
MarksRow-mark row old new waiting_old waiting_new i y below at_i y_below clear so_far = record {
  nodes = length-set new y true ∙ so_far.nodes;
  marks = λ k. (
    (λ is. elim ((marked_set new y k y_below).0 is) [
      | inl earlier ↦ elim ((so_far.marks k).0 earlier) [ inl was ↦ inl was | inr there ↦ inr (Contains-take_old row i 0 k below there) ]
      | inr same ↦ inr (Contains-take_new row i 0 k below (same ∙ at_i))
    ]),
    (λ either. (marked_set new y k y_below).1 (elim either [
      | inl was ↦ inl ((so_far.marks k).1 (inl was))
      | inr there ↦ elim (Contains-take_cases row i 0 k below there) [
        | inl before ↦ inl ((so_far.marks k).1 (inr before))
        | inr same ↦ inr (same ∙ sym at_i)
      ]
    ])),
  );
  from_row = λ k there. elim (Contains-push_cases waiting_new y k there) [
    | inl earlier ↦ elim (so_far.from_row k earlier) [ inl was ↦ inl was | inr in_row ↦ inr (Contains-take_old row i 0 k below in_row) ]
    | inr same ↦ inr (Contains-take_new row i 0 k below (same ∙ at_i))
  ];
  kept = λ k there. Contains-append_left waiting_new (y ∷ []) k (so_far.kept k there);
  added = λ k there. elim (Contains-take_cases row i 0 k below there) [
    | inl before ↦ elim (so_far.added k before) [ inl was ↦ inl was | inr waits ↦ inr (Contains-append_left waiting_new (y ∷ []) k waits) ]
    | inr same ↦ inr (Contains-push_new waiting_new y k (same ∙ sym at_i))
  ];
  work = work_left-mark new waiting_new y y_below clear ∙ so_far.work;
}

-- what the search from a node keeps: what is marked is reached, what waits is the node or marked, and
-- of the node and what is marked each waits or has all its successors marked
pub record IsSearch (graph : Graph) (from : ℕ) (marks : List Bool) (waiting : List ℕ) : Type 0 where
  pub nodes : length marks ≡ length graph
  pub sound : (k : ℕ) → IsMarked marks k → Reaches graph from k
  pub waits : (x : ℕ) → Contains waiting x → (x ≡ from) ⊎ IsMarked marks x
  pub done : (x : ℕ) → (x ≡ from) ⊎ IsMarked marks x → Contains waiting x ⊎ ((y : ℕ) → Edge graph x y → IsMarked marks y)

pub IsSearch-step : (graph : Graph) (from x : ℕ) (marks new : List Bool) (all waiting waiting_new : List ℕ) → all ≡ waiting ++ x ∷ [] → IsSearch graph from marks all → MarksRow (get_or graph x []) marks new waiting waiting_new → IsSearch graph from new waiting_new
IsSearch-step graph from x marks new all waiting waiting_new popped search_of row =
    let x_waits : Contains all x = rw popped (Contains-push_new waiting x x refl) in
    let older : (z : ℕ) → IsMarked marks z → IsMarked new z = λ z was. (row.marks z).1 (inl was) in
    let settled : (z : ℕ) → (z ≡ from) ⊎ IsMarked marks z → Contains waiting_new z ⊎ ((y : ℕ) → Edge graph z y → IsMarked new y) =
    λ z either. elim (search_of.done z either) [
      | inl there ↦ elim (Contains-push_cases waiting x z (rw popped at there)) [
        | inl waits ↦ inl (row.kept z waits)
        | inr same ↦ inr (λ y edge. (row.marks y).1 (inr (rw same at edge)))
      ]
      | inr successors ↦ inr (λ y edge. older y (successors y edge))
    ] in
    record {
      nodes = row.nodes ∙ search_of.nodes;
      sound = λ k marked. elim ((row.marks k).0 marked) [
        | inl was ↦ search_of.sound k was
        | inr edge ↦ elim (search_of.waits x x_waits) [
          | inl same ↦ one (rw same at edge)
          | inr reached ↦ more (search_of.sound x reached) edge
        ]
      ];
      waits = λ k there. elim (row.from_row k there) [
        | inl was ↦ elim (search_of.waits k (rw popped (Contains-append_left waiting (x ∷ []) k was))) [ inl same ↦ inl same | inr marked ↦ inr (older k marked) ]
        | inr in_row ↦ inr ((row.marks k).1 (inr in_row))
      ];
      done = λ z either. elim either [
        | inl same ↦ settled z (inl same)
        | inr marked ↦ elim ((row.marks z).0 marked) [
          | inl was ↦ settled z (inr was)
          | inr in_row ↦ elim (row.added z in_row) [ inl was ↦ settled z (inr was) | inr waits ↦ inl waits ]
        ]
      ];
    }

pub IsSearch-end : (graph : Graph) (from : ℕ) (marks : List Bool) → IsSearch graph from marks [] → MarksReached graph from marks
IsSearch-end graph from marks search_of =
    let onward : (x : ℕ) → (x ≡ from) ⊎ IsMarked marks x → (y : ℕ) → Edge graph x y → IsMarked marks y =
    λ x either. elim (search_of.done x either) [ inl never ↦ absurd (Contains-nil x never) | inr successors ↦ successors ] in
    record {
      nodes = search_of.nodes;
      reached = λ k. (search_of.sound k, Closure-within (IsMarked marks) (onward from (inl refl)) (λ x y marked. onward x (inr marked) y));
    }

-- what waits is a node
pub IsSearch-within : (graph : Graph) (from x : ℕ) (marks : List Bool) (waiting : List ℕ) → from < length graph → IsSearch graph from marks waiting → Contains waiting x → x < length graph
IsSearch-within graph from x marks waiting below search_of there =
    elim (search_of.waits x there) [
      | inl same ↦ omega arith
      | inr marked ↦ omega (arith, marked-within marks x marked, search_of.nodes)
    ]

-- the node that was taken from those that wait is a node
pub IsSearch-popped : (rows : List (Vec ℕ Global)) (from x : ℕ) (marks : List Bool) (all waiting : List ℕ) → from < length rows → all ≡ waiting ++ x ∷ [] → IsSearch (lists rows) from marks all → x < length rows
IsSearch-popped rows from x marks all waiting below popped search_of =
    let there : Contains all x = rw popped (Contains-push_new waiting x x refl) in
    let same : length (lists rows) ≡ length rows = length-map rows (λ r. r.items) in
    omega (arith, same, IsSearch-within (lists rows) from x marks all (omega arith) search_of there)
