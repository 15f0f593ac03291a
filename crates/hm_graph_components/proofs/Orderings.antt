-- the groups so far, and the nodes that they have
use Rattle.std.proofs.Common.{◌≡◌, ℕ, ◌<◌, ◌≤◌, Bool, true, false, not, List, [], ◌∷◌, ◌++◌, length, get_or, take, Contains, All, ◌↔◌, inl, inr, refl, sym, ◌∙◌, arith, Vec, Global, length-append}
use Rattle.std.specs.List.{concat}
use Rattle.std.proofs.lemmas.Bool.{both_ways, cases_Bool, cases_lt, not-true}
use Rattle.std.proofs.lemmas.List.{take-append-le, take_at, get_or_append_left, get_or_push}
use Rattle.std.proofs.lemmas.List.Elements.{Contains-append_left, Contains-append_right, Contains-append_cases}
use Rattle.hm_graph_components.specs.Digraph.{Graph, IsNext, AreGroups}
use Rattle.hm_graph_components.specs.Marks.{IsMarked, IsTable, IsReady, IsHeld, IsRowOf, AreLimits, PlacesGroup}
use Rattle.hm_graph_components.proofs.Members.{concat_push}
use Rattle.hm_graph_components.proofs.Limits.{AreLimits-placed}
use Rattle.hm_graph_components.proofs.Orders.{tally, tally-lt, all_placed, next_group}

-- how many nodes are not placed
abbrev pub unplaced_count : List Bool → ℕ
unplaced_count placed = tally (λ k. not (get_or placed k false)) (length placed)

pub record IsOrdering (table : List (Vec Bool Global)) (placed : List Bool) (limits : List ℕ) (groups : List (List ℕ)) : Type 0 where
  pub placed_len : length placed ≡ length table
  pub limits_len : length limits ≡ length table
  pub within : All (λ m. m ≤ length placed) limits
  pub are_limits : AreLimits table placed limits
  pub same : (k : ℕ) → IsMarked placed k ↔ Contains (concat groups) k
  pub each : (graph : Graph) → IsTable graph table → (i : ℕ) → i < length groups → IsNext graph (concat (take i groups)) (get_or groups i [])

pub IsOrdering-step : (table : List (Vec Bool Global)) (placed new : List Bool) (limits limits_new : List ℕ) (groups : List (List ℕ)) (group : List ℕ) (x : ℕ) → IsOrdering table placed limits groups → length limits_new ≡ length limits → All (λ m. m ≤ length placed) limits_new → AreLimits table placed limits_new → IsReady table placed x → ((z : ℕ) → z < x → IsHeld table placed z) → IsRowOf table x group → PlacesGroup group placed new → IsOrdering table new limits_new (groups ++ group ∷ [])
IsOrdering-step table placed new limits limits_new groups group x so_far len within are_limits ready least row places =
    record {
      placed_len = places.nodes ∙ so_far.placed_len;
      limits_len = len ∙ so_far.limits_len;
      within = let n_same : length placed ≡ length new = sym places.nodes in rw n_same at within;
      are_limits = AreLimits-placed table placed new limits_new group places are_limits;
      same = λ k. (
        (λ marked. rw concat_push (elim ((places.marks k).0 marked) [
          | inl was ↦ Contains-append_left (concat groups) group k ((so_far.same k).0 was)
          | inr there ↦ Contains-append_right (concat groups) group k there
        ])),
        (λ there. (places.marks k).1 (elim (Contains-append_cases (concat groups) group k (rw concat_push at there)) [
          | inl before ↦ inl ((so_far.same k).1 before)
          | inr in_group ↦ inr in_group
        ])),
      );
      each = λ graph is i below. elim (cases_lt i (length groups)) [
        | inl less ↦
            let le : i ≤ length groups = omega arith in
            rw (take-append-le i groups (group ∷ []) le, get_or_append_left groups (group ∷ []) [] i less) (so_far.each graph is i less)
        | inr past ↦
            let last : length groups ≡ i = omega (arith, length-append groups (group ∷ [])) in
            let nodes : length placed ≡ length graph = omega (arith, so_far.placed_len, is.square.0) in
            rw (take_at groups (group ∷ []) i last, get_or_push groups group [] i last)
            (next_group graph table placed (concat groups) group x is nodes is.square.0 so_far.same ready least row)
      ];
    }

pub IsOrdering-end : (graph : Graph) (table : List (Vec Bool Global)) (placed : List Bool) (limits : List ℕ) (groups : List (List ℕ)) → IsTable graph table → IsOrdering table placed limits groups → ((z : ℕ) → z < length placed → IsHeld table placed z) → AreGroups graph groups
IsOrdering-end graph table placed limits groups is so_far held = record {
  each = so_far.each graph is;
  all = λ x below. (so_far.same x).0 (all_placed graph table placed is (omega (arith, so_far.placed_len, is.square.0)) held x below);
}

pub row_of-self : (table : List (Vec Bool Global)) (x : ℕ) (group : List ℕ) → x < length table → IsRowOf table x group → Contains group x
row_of-self table x group below row = (row.members x).1 (below, inl refl)

pub unplaced_count-less : (placed new : List Bool) (group : List ℕ) (x : ℕ) → PlacesGroup group placed new → x < length placed → get_or placed x false ≡ false → Contains group x → unplaced_count new < unplaced_count placed
unplaced_count-less placed new group x places below clear there =
    let now : get_or new x false ≡ true = (places.marks x).1 (inr there) in
    let fewer : tally (λ k. not (get_or new k false)) (length placed) < tally (λ k. not (get_or placed k false)) (length placed) =
    tally-lt (λ k. not (get_or new k false)) (λ k. not (get_or placed k false)) (length placed) x
    (λ k k_below is_clear. elim (cases_Bool (get_or placed k false)) [
      | inl marked ↦ absurd (both_ways (get_or new k false) (not-true (get_or new k false) is_clear) ((places.marks k).1 (inl marked)))
      | inr unmarked ↦ rw unmarked refl
    ])
    below (rw now refl) (rw clear refl) in
    rw places.nodes fewer
