use Rattle.std.proofs.Common.{◌≡◌, All, take}
use Rattle.hm_build_places.proofs.typed.constructor_scheme.Given as goal

abbrev pub invariant-constructors : goal.invariant-constructors
invariant-constructors l = All (λ v. ¬ (v.entity ≡ l.entity)) (take l.constructor-index l.constructors)
