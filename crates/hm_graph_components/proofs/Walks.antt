-- rows of nodes, as searches keep them
use Rattle.std.proofs.Common.{◌≡◌, ℕ, ◌<◌, Bool, List, [], ◌∷◌, ◌++◌, length, get_or, set, All, inl, inr, refl, arith, length-append, length-set, get_or-set_same, get_or-set_other}
use Rattle.std.proofs.lemmas.Bool.{cases_lt, cases_eq}
use Rattle.std.proofs.lemmas.List.{get_or_push, get_or_append_left, get_or_default}
use Rattle.std.proofs.lemmas.List.Elements.{All-contains}
use Rattle.hm_graph_components.specs.Marks.{MarksRow}
use Rattle.hm_graph_components.proofs.Members.{Contains-push_new}

pub All-push : (P : ℕ → Type 0) (xs : List ℕ) (y : ℕ) → All P xs → P y → All P (xs ++ y ∷ [])
All-push P xs y so_far last k d below =
    elim (cases_lt k (length xs)) [
      | inl less ↦ rw (get_or_append_left xs (y ∷ []) d k less) (so_far k d less)
      | inr past ↦
          let same : length xs ≡ k = omega (arith, length-append xs (y ∷ [])) in
          rw (get_or_push xs y d k same) last
    ]

pub All-before : (P : ℕ → Type 0) (all xs : List ℕ) (y : ℕ) → all ≡ xs ++ y ∷ [] → All P all → All P xs
All-before P all xs y is so_far k d below =
    let inside : k < length (xs ++ y ∷ []) = omega (arith, length-append xs (y ∷ [])) in
    rw (get_or_append_left xs (y ∷ []) d k below) at ((rw is at so_far) k d inside)

pub All-last : (P : ℕ → Type 0) (all xs : List ℕ) (y : ℕ) → all ≡ xs ++ y ∷ [] → All P all → P y
All-last P all xs y is so_far = All-contains P all y so_far (rw is (Contains-push_new xs y y refl))

pub All-set : (P : ℕ → Type 0) (xs : List ℕ) (i y : ℕ) → i < length xs → All P xs → P y → All P (set xs i y)
All-set P xs i y inside so_far is k d below =
    elim (cases_eq k i) [
      | inl same ↦ rw (same, get_or-set_same xs i y d inside) is
      | inr other ↦ rw (get_or-set_other xs i k y d other) (so_far k d (omega (arith, length-set xs i y)))
    ]

-- what waits after a row is marked are nodes
pub All-waiting : (n : ℕ) (row : List ℕ) (old new : List Bool) (waiting_old waiting_new : List ℕ) → All (λ x. x < n) waiting_old → All (λ x. x < n) row → MarksRow row old new waiting_old waiting_new → All (λ x. x < n) waiting_new
All-waiting n row old new waiting_old waiting_new waits of_row marks k d below =
    elim (marks.from_row (get_or waiting_new k d) (k, below, get_or_default waiting_new k (get_or waiting_new k d) d below)) [
      | inl was ↦ All-contains (λ x. x < n) waiting_old (get_or waiting_new k d) waits was
      | inr there ↦ All-contains (λ x. x < n) row (get_or waiting_new k d) of_row there
    ]
