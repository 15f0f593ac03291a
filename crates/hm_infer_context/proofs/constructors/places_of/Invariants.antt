use Rattle.std.proofs.Common.{◌-◌, drop, length}
use Rattle.hm_infer_context.specs.ConstructorPlaces.{AreFirstPlaces}
use Rattle.hm_infer_context.proofs.constructors.places_of.Given as goal

abbrev pub invariant-entries : goal.invariant-entries
invariant-entries l = AreFirstPlaces l.entries (drop (length l.entries - l.behind) l.entries) l.places
