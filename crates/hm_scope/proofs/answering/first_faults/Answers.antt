use Rattle.hm_scope.proofs.PhasesInOrder.{first_phase}
use Rattle.hm_scope.proofs.answering.first_faults.Goals as goal

pub returns : goal.returns
returns c = λ m fs d e n k i.
    first_phase m fs c.args.lists.items c.args.exports.items c.args.names.items c.args.numbers.items _ _ _ _ i d e n k
    c.first_of-after_exports.ensures c.first_of-after_lists.ensures c.first_of-found.ensures (λ p. c.in_ok-phase_answer.ensures m fs p)
