use Rattle.std.proofs.Common.{map}
use Rattle.hm_service_candidates.specs.Ranges.{AreFirstIn, tried_of}
use Rattle.hm_service_candidates.proofs.ranges.candidates_in.Given as goal

abbrev pub invariant-messages : goal.invariant-messages
invariant-messages l = AreFirstIn l.told l.range l.number (map tried_of l.found.items)
