use Rattle.std.proofs.Common.{map, take}
use Rattle.hm_names.specs.TypeVariables.{ArePlaces}
use Rattle.hm_names.proofs.type_variables.first_places.Given as goal

abbrev pub invariant-texts : goal.invariant-texts
invariant-texts l = ArePlaces (take l.place (map (λ t. t.now) l.texts)) l.places
