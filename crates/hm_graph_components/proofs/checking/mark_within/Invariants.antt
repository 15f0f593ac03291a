use Rattle.std.proofs.Common.{take}
use Rattle.hm_graph_components.specs.Checks.{MarksWithin}
use Rattle.hm_graph_components.proofs.checking.mark_within.Given as goal

abbrev pub invariant-loop-y : goal.invariant-loop-y
invariant-loop-y l = MarksWithin (take l.y-index l.row) l.number l.numbers l.initial.marks l.marks l.initial.waiting.items l.waiting.items
