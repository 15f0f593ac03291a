-- the rows of a graph, as vectors and as lists
use Rattle.std.proofs.Common.{◌≡◌, ℕ, ◌+◌, ◌<◌, ◌≤◌, Bool, List, [], ◌∷◌, ◌++◌, length, get_or, set, replicate, Contains, All, ◌↔◌, inl, inr, ap, sym, ◌∙◌, arith, Vec, Global, length-append, length-set, get_or-set_same, get_or-set_other}
use Rattle.std.specs.List.Sorted.{IsStrictlyIncreasing}
use Rattle.std.proofs.lemmas.Bool.{cases_eq, cases_lt}
use Rattle.std.proofs.lemmas.List.{get_or_past, get_or-map, length-map, map-set, map_push, set-get_or, get_or_push, get_or_append_left, get_or_default, get_or-replicate, length-replicate}
use Rattle.std.proofs.lemmas.List.Elements.{Contains-append_left}
use Rattle.hm_graph_components.specs.Digraph.{Graph, Edge, AddsEdge, lists}
use Rattle.hm_graph_components.specs.Marks.{MarksReached, IsClosed, IsSquare, IsRowOf, IsMember}
use Rattle.hm_graph_components.proofs.Members.{Contains-nil, Contains-push_cases, Contains-push_new}

pub row_at : {X : Type 0} (rows : List (Vec X Global)) (x : ℕ) (row : Vec X Global) → x < length rows → row ≡ get_or rows x row → get_or (lists rows) x [] ≡ row.items
row_at rows x row below is = get_or-map (λ r. r.items) rows x row [] below ∙ sym (ap (λ r. r.items) is)

pub AddsEdge-set : (graph : Graph) (from to : ℕ) → from < length graph → AddsEdge graph (set graph from (get_or graph from [] ++ to ∷ [])) from to
AddsEdge-set graph from to below =
    let row : List ℕ = get_or graph from [] in
    let same_row : get_or (set graph from (row ++ to ∷ [])) from [] ≡ row ++ to ∷ [] = get_or-set_same graph from (row ++ to ∷ []) [] below in
    record {
      nodes = length-set graph from (row ++ to ∷ []);
      edges = λ x y. elim (cases_eq x from) [
        | inl same ↦ (
          (λ edge. elim (Contains-push_cases row to y (rw (same, same_row) at edge)) [ inl old ↦ inl (rw same old) | inr new ↦ inr (same, new) ]),
          (λ either. rw (same, same_row) (elim either [
            | inl old ↦ Contains-append_left row (to ∷ []) y (rw same at old)
            | inr (_, new) ↦ Contains-push_new row to y new
          ])),
        )
        | inr other ↦
            let other_row : get_or (set graph from (row ++ to ∷ [])) x [] ≡ get_or graph x [] = get_or-set_other graph from x (row ++ to ∷ []) [] other in (
              (λ edge. inl (rw other_row at edge)),
              (λ either. rw other_row (elim either [ inl old ↦ old | inr (same, _) ↦ absurd (other same) ])),
            )
      ];
    }

pub IsClosed-add : (old new : Graph) (from to : ℕ) → IsClosed old → to < length old → AddsEdge old new from to → IsClosed new
IsClosed-add old new from to closed below adds x y edge =
    elim ((adds.edges x y).0 edge) [
      | inl was ↦ omega (arith, closed x y was, adds.nodes)
      | inr (_, same) ↦ omega (arith, adds.nodes)
    ]

pub All-row : (graph : Graph) (x : ℕ) → IsClosed graph → All (λ y. y < length graph) (get_or graph x [])
All-row graph x closed = λ k d below.
    closed x (get_or (get_or graph x []) k d) (k, below, get_or_default (get_or graph x []) k (get_or (get_or graph x []) k d) d below)

-- one more row of marks
pub record IsRows (graph : Graph) (table : List (Vec Bool Global)) (n : ℕ) : Type 0 where
  pub len : length table ≡ n
  pub rows : (x : ℕ) → x < n → MarksReached graph x (get_or (lists table) x [])

pub IsStrictlyIncreasing-push : (xs : List ℕ) (y : ℕ) → IsStrictlyIncreasing xs → ((x : ℕ) → Contains xs x → x < y) → IsStrictlyIncreasing (xs ++ y ∷ [])
IsStrictlyIncreasing-push xs y rising above k below =
    let inside : k < length xs = omega (arith, length-append xs (y ∷ [])) in
    let here : get_or (xs ++ y ∷ []) k 0 ≡ get_or xs k 0 = get_or_append_left xs (y ∷ []) 0 k inside in
    elim (cases_lt (k + 1) (length xs)) [
      | inl less ↦ rw (here, get_or_append_left xs (y ∷ []) 0 (k + 1) less) (rising k less)
      | inr past ↦
          let last : length xs ≡ k + 1 = omega arith in
          let new : get_or (xs ++ y ∷ []) (k + 1) 0 ≡ y = get_or_push xs y 0 (k + 1) last in
          let least : get_or xs k 0 < y = above (get_or xs k 0) (k, inside, get_or_default xs k (get_or xs k 0) 0 inside) in
          rw (here, new) least
    ]

-- the members of a group among the numbers below n
pub record IsGroupBelow (table : List (Vec Bool Global)) (x : ℕ) (group : List ℕ) (n : ℕ) : Type 0 where
  pub members : (y : ℕ) → Contains group y ↔ ((y < n) × IsMember table x y)
  pub ascending : IsStrictlyIncreasing group

pub IsGroupBelow-push : (table : List (Vec Bool Global)) (x : ℕ) (group : List ℕ) (n : ℕ) → IsGroupBelow table x group n → IsMember table x n → IsGroupBelow table x (group ++ n ∷ []) (n + 1)
IsGroupBelow-push table x group n so_far member = record {
  members = λ y. (
    (λ there. elim (Contains-push_cases group n y there) [
      | inl old ↦ let m = (so_far.members y).0 old in (omega (arith, m.0), m.1)
      | inr same ↦ (omega arith, rw same member)
    ]),
    (λ (below, is). elim (cases_lt y n) [
      | inl less ↦ Contains-append_left group (n ∷ []) y ((so_far.members y).1 (less, is))
      | inr past ↦ let same : y ≡ n = omega arith in Contains-push_new group n y same
    ]),
  );
  ascending = IsStrictlyIncreasing-push group n so_far.ascending (λ y there. ((so_far.members y).0 there).0);
}

pub IsGroupBelow-skip : (table : List (Vec Bool Global)) (x : ℕ) (group : List ℕ) (n : ℕ) → IsGroupBelow table x group n → (IsMember table x n → ⊥) → IsGroupBelow table x group (n + 1)
IsGroupBelow-skip table x group n so_far not_member = record {
  members = λ y. (
    (λ there. let m = (so_far.members y).0 there in (omega (arith, m.0), m.1)),
    (λ (below, is). elim (cases_lt y n) [
      | inl less ↦ (so_far.members y).1 (less, is)
      | inr past ↦ let same : y ≡ n = omega arith in absurd (not_member (rw same at is))
    ]),
  );
  ascending = so_far.ascending;
}

-- a row at an index of the vectors, as the lists have it
pub All-row_at : (rows : List (Vec ℕ Global)) (x n : ℕ) (row : Vec ℕ Global) → IsClosed (lists rows) → x < length rows → row ≡ get_or rows x row → n ≡ length (lists rows) → All (λ y. y < n) row.items
All-row_at rows x n row closed below is same =
    let all = All-row (lists rows) x closed in
    rw (same, ← row_at rows x row below is) all

pub length-row_at : (table : List (Vec Bool Global)) (n x : ℕ) (row : Vec Bool Global) → IsSquare table n → x < n → row ≡ get_or table x row → length row.items ≡ n
length-row_at table n x row square below is =
    let inside : x < length table = omega (arith, square.0) in
    rw (row_at table x row inside is) at (square.1 x below)

-- the row with one more element, as the code writes it
pub AddsEdge-rows : (rows : List (Vec ℕ Global)) (from to : ℕ) (old new : Vec ℕ Global) → from < length rows → old ≡ get_or rows from old → new.items ≡ old.items ++ to ∷ [] → AddsEdge (lists rows) (lists (set rows from new)) from to
AddsEdge-rows rows from to old new below is pushed =
    let inside : from < length (lists rows) = omega (arith, length-map rows (λ r. r.items)) in
    let adds = AddsEdge-set (lists rows) from to inside in
    let row : get_or (lists rows) from [] ≡ old.items = row_at rows from old below is in
    let same : lists (set rows from new) ≡ set (lists rows) from (get_or (lists rows) from [] ++ to ∷ []) =
    map-set (λ r. r.items) rows from new ∙ ap (λ r. set (lists rows) from r) (pushed ∙ sym (ap (λ r. r ++ to ∷ []) row)) in
    rw same adds

pub lists-set_same : (rows : List (Vec ℕ Global)) (from : ℕ) (old new : Vec ℕ Global) → from < length rows → old ≡ get_or rows from old → new.items ≡ old.items → lists (set rows from new) ≡ lists rows
lists-set_same rows from old new below is same =
    let row : get_or (lists rows) from [] ≡ old.items = row_at rows from old below is in
    map-set (λ r. r.items) rows from new ∙ (ap (λ r. set (lists rows) from r) (same ∙ sym row) ∙ set-get_or (lists rows) from [])

pub IsGroupBelow-row : (table : List (Vec Bool Global)) (x : ℕ) (group : List ℕ) (n : ℕ) → n ≡ length table → IsGroupBelow table x group n → IsRowOf table x group
IsGroupBelow-row table x group n last all = record {
  members = λ y. ((λ there. let m = (all.members y).0 there in (omega (arith, m.0), m.1)), (λ (below, is). (all.members y).1 (omega arith, is)));
  ascending = all.ascending;
}

pub Edge-replicate : (n x y : ℕ) → Edge (replicate n []) x y → ⊥
Edge-replicate n x y edge =
    let none : List ℕ = [] in
    elim (cases_lt x n) [
      | inl less ↦ Contains-nil y (rw (get_or-replicate n x none none less) at edge)
      | inr past ↦
          let beyond : length (replicate n none) ≤ x = omega (arith, length-replicate n none) in
          Contains-nil y (rw (get_or_past (replicate n none) x none beyond) at edge)
    ]

pub lists-push : {X : Type 0} (rows : List (Vec X Global)) (row : Vec X Global) → lists (rows ++ row ∷ []) ≡ lists rows ++ row.items ∷ []
lists-push rows row = map_push (λ r. r.items) rows row

-- the list that the code writes
pub lists-set_push : (rows : List (Vec ℕ Global)) (from to : ℕ) (old new : Vec ℕ Global) → from < length rows → old ≡ get_or rows from old → new.items ≡ old.items ++ to ∷ [] → lists (set rows from new) ≡ set (lists rows) from (get_or (lists rows) from [] ++ to ∷ [])
lists-set_push rows from to old new below is pushed =
    let row : get_or (lists rows) from [] ≡ old.items = row_at rows from old below is in
    map-set (λ r. r.items) rows from new ∙ ap (λ r. set (lists rows) from r) (pushed ∙ sym (ap (λ r. r ++ to ∷ []) row))
