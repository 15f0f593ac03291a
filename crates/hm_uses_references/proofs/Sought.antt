-- Looking for a name that means the same among others.
use Rattle.std.proofs.Common.{◌≤◌, ℕ, All, List, length, subst, sym, take}
use Rattle.std.specs.List.{Any}
use Rattle.std.proofs.lemmas.List.{take_all}
use Rattle.hm_uses_references.specs.SetNames.{IsSame, SetName}

-- none of the names gone through means the same
pub none_found : (names : List SetName) (i : ℕ) (other : SetName) → length names ≤ i → All (λ n. ¬ (IsSame n other)) (take i names) → Any (λ n. IsSame n other) names → ⊥
none_found names i other ends none (k, n, within, is, same) =
    subst (λ (l : List SetName). All (λ m. ¬ (IsSame m other)) l) (take_all i names ends) none k n within (subst (λ (m : SetName). IsSame m other) (sym is) same)
