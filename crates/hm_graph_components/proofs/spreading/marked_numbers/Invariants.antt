use Rattle.hm_graph_components.proofs.SpreadMarks.{AreMarkedBelow}
use Rattle.hm_graph_components.proofs.spreading.marked_numbers.Given as goal

abbrev pub invariant-marks : goal.invariant-marks
invariant-marks l = AreMarkedBelow l.marks l.number l.numbers.items
