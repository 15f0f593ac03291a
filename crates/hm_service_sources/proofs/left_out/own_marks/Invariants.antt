use Rattle.hm_service_sources.specs.Steps.{AreMarksBelow}
use Rattle.hm_service_sources.proofs.left_out.own_marks.Given as goal

abbrev pub invariant-modules : goal.invariant-modules
invariant-modules l = AreMarksBelow l.located l.ways l.sources l.number l.marks.items
