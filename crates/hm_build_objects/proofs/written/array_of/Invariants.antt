use Rattle.std.proofs.Common.{◌≡◌, map, take}
use Rattle.serde_json.specs.View.{view}
use Rattle.hm_build_objects.proofs.written.array_of.Given as goal

abbrev pub invariant-loop-thing : goal.invariant-loop-thing
invariant-loop-thing g l = map view l.items.items ≡ map g.E.Written.data_of (take l.thing-index l.things)
