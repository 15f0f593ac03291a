use Rattle.std.proofs.Common.{◌≡◌, All, take}
use Rattle.hm_build_places.proofs.typed.value_scheme.Given as goal

abbrev pub invariant-values : goal.invariant-values
invariant-values l = All (λ v. ¬ (v.entity ≡ l.entity)) (take l.value-index l.values)
