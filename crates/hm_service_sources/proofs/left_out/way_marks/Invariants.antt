use Rattle.hm_service_sources.specs.LeftOut.{outlines_of}
use Rattle.hm_service_sources.specs.Steps.{AreWayMarks}
use Rattle.hm_service_sources.proofs.left_out.way_marks.Given as goal

abbrev pub invariant-modules : goal.invariant-modules
invariant-modules l = AreWayMarks (outlines_of l.located) l.number l.marks.items
