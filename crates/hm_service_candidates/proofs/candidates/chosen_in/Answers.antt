use Rattle.std.proofs.Common.{ap, map}
use Rattle.hm_service_messages.proofs.Chosen.{chosen_more}
use Rattle.hm_service_candidates.specs.Candidates.{IsCandidate}
use Rattle.hm_service_candidates.proofs.Choosing.{decided}
use Rattle.hm_service_candidates.proofs.candidates.chosen_in.Goals as goal

pub messages-preserved : goal.messages-preserved
messages-preserved c =
    let d = c.message-item.result in
    let mark = c.is_candidate.result in
    let old = map (λ x. x.now) c.messages.found.items in
    let new = map (λ x. x.now) c.add.new.found.items in
    chosen_more (IsCandidate c.args.source) c.args.messages.now c.messages.message-index d old new mark c.messages-test.true c.message-item.is c.messages.invariant
    (decided mark (IsCandidate c.args.source d) c.is_candidate.ensures.yes c.is_candidate.ensures.no) c.in_ok-add.ensures.yes (λ clear. ap (map (λ x. x.now)) (c.in_ok-add.ensures.none clear))
