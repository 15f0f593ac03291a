use Rattle.hm_service_sources.specs.LeftOut.{outlines_of}
use Rattle.hm_service_sources.specs.Steps.{AreFirsts}
use Rattle.hm_service_sources.proofs.names.first_numbers.Given as goal

abbrev pub invariant-modules : goal.invariant-modules
invariant-modules l = AreFirsts (outlines_of l.located) l.number l.numbers
