use Rattle.std.proofs.Common.{All, take}
use Rattle.hm_service_candidates.specs.Ranges.{IsIn}
use Rattle.hm_service_candidates.proofs.ranges.has_message_in.Given as goal

abbrev pub invariant-messages : goal.invariant-messages
invariant-messages l = All (λ d. ¬ (IsIn l.range d)) (take l.index l.messages)
