use Rattle.std.proofs.Common.{take}
use Rattle.hm_graph_components.specs.Marks.{MarksRow}
use Rattle.hm_graph_components.proofs.groups.mark_row.Given as goal

abbrev pub invariant-loop-y : goal.invariant-loop-y
invariant-loop-y l = MarksRow (take l.y-index l.row) l.initial.marks l.marks l.initial.waiting.items l.waiting.items
