-- Spreading marks along edges.
use Rattle.std.proofs.Common.{◌≡◌, ℕ, ◌+◌, ◌<◌, ◌≤◌, Bool, true, false, List, [], ◌∷◌, ◌++◌, length, get_or, Contains, ◌⊎◌, ◌↔◌, inl, inr, refl, sym, ◌∙◌, arith, Vec, Global}
use Rattle.std.proofs.lemmas.Bool.{cases_eq, cases_lt, both_ways}
use Rattle.std.proofs.lemmas.List.{get_or_past, length-map}
use Rattle.std.proofs.lemmas.List.Elements.{Contains-append_left}
use Rattle.hm_graph_components.specs.Closure.{Closure, one, more}
use Rattle.hm_graph_components.specs.Digraph.{Graph, Edge, Reaches, lists}
use Rattle.hm_graph_components.specs.Marks.{IsMarked, MarksRow, Spreads}
use Rattle.hm_graph_components.proofs.Members.{Contains-nil, Contains-push_cases, Contains-push_new}
use Rattle.hm_graph_components.proofs.Searches.{marked-within}

-- the numbers below i with a mark
abbrev pub AreMarkedBelow : List Bool → ℕ → List ℕ → Type 0
AreMarkedBelow marks i numbers = (k : ℕ) → Contains numbers k ↔ ((k < i) × IsMarked marks k)

pub none_below : (marks : List Bool) → AreMarkedBelow marks 0 []
none_below marks k = (λ c. absurd (Contains-nil k c), λ h. absurd (omega (arith, h.0)))

pub marked_next : (marks : List Bool) (i : ℕ) (numbers : List ℕ) → IsMarked marks i → AreMarkedBelow marks i numbers → AreMarkedBelow marks (i + 1) (numbers ++ i ∷ [])
marked_next marks i numbers marked so_far k = (
  λ c. elim (Contains-push_cases numbers i k c) [
    | inl before ↦ let h = (so_far k).0 before in let below = h.0 in (omega (arith, below), h.1)
    | inr same ↦ (omega (arith, same), rw same marked)
  ],
  λ h. elim (cases_eq k i) [
    | inl same ↦ Contains-push_new numbers i k same
    | inr other ↦ let below = h.0 in Contains-append_left numbers (i ∷ []) k ((so_far k).1 (omega (arith, below, other), h.1))
  ],
)

pub clear_next : (marks : List Bool) (i : ℕ) (numbers : List ℕ) → get_or marks i false ≡ false → AreMarkedBelow marks i numbers → AreMarkedBelow marks (i + 1) numbers
clear_next marks i numbers clear so_far k = (
  λ c. let h = (so_far k).0 c in let below = h.0 in (omega (arith, below), h.1),
  λ h. elim (cases_eq k i) [
    | inl same ↦ absurd (both_ways (get_or marks i false) clear (rw same at h.1))
    | inr other ↦ let below = h.0 in (so_far k).1 (omega (arith, below, other), h.1)
  ],
)

pub all_marked : (marks : List Bool) (i : ℕ) (numbers : List ℕ) → length marks ≤ i → AreMarkedBelow marks i numbers → (k : ℕ) → Contains numbers k ↔ IsMarked marks k
all_marked marks i numbers all so_far k = (
  λ c. ((so_far k).0 c).1,
  λ marked. (so_far k).1 (let below = marked-within marks k marked in omega (arith, below, all), marked),
)

-- what is kept while marks spread: a node has a mark from the start or from such a node, what waits has a mark, and of the nodes with
-- a mark each waits or has marks at all its successors
pub record IsSpreading (graph : Graph) (old marks : List Bool) (waiting : List ℕ) : Type 0 where
  pub nodes : length marks ≡ length old
  pub sound : (k : ℕ) → IsMarked marks k → IsMarked old k ⊎ ((j : ℕ) × (IsMarked old j × Reaches graph j k))
  pub stays : (k : ℕ) → IsMarked old k → IsMarked marks k
  pub waits : (k : ℕ) → Contains waiting k → IsMarked marks k
  pub done : (x : ℕ) → IsMarked marks x → Contains waiting x ⊎ ((y : ℕ) → Edge graph x y → IsMarked marks y)

pub spreading_starts : (graph : Graph) (old : List Bool) (waiting : List ℕ) → ((k : ℕ) → Contains waiting k ↔ IsMarked old k) → IsSpreading graph old old waiting
spreading_starts graph old waiting are = record {
  nodes = refl;
  sound = λ k marked. inl marked;
  stays = λ k marked. marked;
  waits = λ k there. (are k).0 there;
  done = λ x marked. inl ((are x).1 marked);
}

pub spreading_step : (graph : Graph) (x : ℕ) (old marks new : List Bool) (all waiting waiting_new : List ℕ) → all ≡ waiting ++ x ∷ [] → IsSpreading graph old marks all → MarksRow (get_or graph x []) marks new waiting waiting_new → IsSpreading graph old new waiting_new
spreading_step graph x old marks new all waiting waiting_new popped so_far row =
    let x_marked : IsMarked marks x = so_far.waits x (rw popped (Contains-push_new waiting x x refl)) in
    let older : (z : ℕ) → IsMarked marks z → IsMarked new z = λ z was. (row.marks z).1 (inl was) in
    let settled : (z : ℕ) → IsMarked marks z → Contains waiting_new z ⊎ ((y : ℕ) → Edge graph z y → IsMarked new y) =
    λ z was. elim (so_far.done z was) [
      | inl there ↦ elim (Contains-push_cases waiting x z (rw popped at there)) [
        | inl waits ↦ inl (row.kept z waits)
        | inr same ↦ inr (λ y edge. (row.marks y).1 (inr (rw same at edge)))
      ]
      | inr successors ↦ inr (λ y edge. older y (successors y edge))
    ] in
    record {
      nodes = row.nodes ∙ so_far.nodes;
      sound = λ k marked. elim ((row.marks k).0 marked) [
        | inl was ↦ so_far.sound k was
        | inr edge ↦ elim (so_far.sound x x_marked) [
          | inl start ↦ inr (x, (start, one edge))
          | inr from ↦ inr (from.0, (from.1.0, more from.1.1 edge))
        ]
      ];
      stays = λ k was. older k (so_far.stays k was);
      waits = λ k there. elim (row.from_row k there) [
        | inl was ↦ older k (so_far.waits k (rw popped (Contains-append_left waiting (x ∷ []) k was)))
        | inr in_row ↦ (row.marks k).1 (inr in_row)
      ];
      done = λ z marked. elim ((row.marks z).0 marked) [
        | inl was ↦ settled z was
        | inr in_row ↦ elim (row.added z in_row) [ inl was ↦ settled z was | inr waits ↦ inl waits ]
      ];
    }

pub spreading_ends : (graph : Graph) (old marks : List Bool) → IsSpreading graph old marks [] → Spreads graph old marks
spreading_ends graph old marks so_far = record {
  nodes = so_far.nodes;
  marks = λ k. (
    so_far.sound k,
    λ h. elim h [ inl was ↦ so_far.stays k was | inr from ↦ reached from.0 k (so_far.stays from.0 from.1.0) from.1.1 ],
  );
}
  where
    onward : (x : ℕ) → IsMarked marks x → (y : ℕ) → Edge graph x y → IsMarked marks y
    onward x marked = elim (so_far.done x marked) [ inl never ↦ absurd (Contains-nil x never) | inr successors ↦ successors ]

    reached : (j k : ℕ) → IsMarked marks j → Closure (Edge graph) j k → IsMarked marks k
    reached j k marked (one e) = onward j marked k e
    reached j k marked (more {b} c e) = onward b (reached j b marked c) k e

-- a node that waits is a node
pub spreading_within : (rows : List (Vec ℕ Global)) (x : ℕ) (old marks : List Bool) (all waiting : List ℕ) → length old ≡ length (lists rows) → all ≡ waiting ++ x ∷ [] → IsSpreading (lists rows) old marks all → x < length rows
spreading_within rows x old marks all waiting nodes popped so_far =
    let there : Contains all x = rw popped (Contains-push_new waiting x x refl) in
    let same : length (lists rows) ≡ length rows = length-map rows (λ r. r.items) in
    omega (arith, same, nodes, so_far.nodes, marked-within marks x (so_far.waits x there))
