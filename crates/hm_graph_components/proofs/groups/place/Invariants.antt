use Rattle.std.proofs.Common.{take}
use Rattle.hm_graph_components.specs.Marks.{PlacesGroup}
use Rattle.hm_graph_components.proofs.groups.place.Given as goal

abbrev pub invariant-loop-y : goal.invariant-loop-y
invariant-loop-y l = PlacesGroup (take l.y-index l.group) l.initial.placed l.placed
