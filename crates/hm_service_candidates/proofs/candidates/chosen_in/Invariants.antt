use Rattle.std.proofs.Common.{map, take}
use Rattle.hm_service_messages.specs.Choices.{AreChosen}
use Rattle.hm_service_candidates.specs.Candidates.{IsCandidate}
use Rattle.hm_service_candidates.proofs.candidates.chosen_in.Given as goal

abbrev pub invariant-messages : goal.invariant-messages
invariant-messages l = AreChosen (IsCandidate l.source) (take l.message-index l.messages) (map (λ d. d.now) l.found.items)
