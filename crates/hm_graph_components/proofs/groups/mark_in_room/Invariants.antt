use Rattle.std.proofs.Common.{◌≡◌, take}
use Rattle.std.specs.Vec.{vec_capacity}
use Rattle.hm_graph_components.specs.Marks.{MarksRow}
use Rattle.hm_graph_components.proofs.groups.mark_in_room.Given as goal

abbrev pub invariant-loop-y : goal.invariant-loop-y
invariant-loop-y l = record {
  row : MarksRow (take l.y-index l.row) l.initial.marks l.marks l.initial.waiting.items l.waiting.items;
  capacity : vec_capacity l.waiting ≡ vec_capacity l.initial.waiting;
}
