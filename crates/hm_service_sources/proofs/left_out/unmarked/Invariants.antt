use Rattle.hm_service_sources.proofs.Marked.{AreUnmarkedBelow}
use Rattle.hm_service_sources.proofs.left_out.unmarked.Given as goal

abbrev pub invariant-marks : goal.invariant-marks
invariant-marks l = AreUnmarkedBelow l.marks l.number l.numbers.items
