use Rattle.hm_scope.proofs.ModuleAnswers.{are_trees}
use Rattle.hm_scope.proofs.scoping.trees_of.Goals as goal

pub returns : goal.returns
returns c = λ m fs are cycles. are_trees m fs _ c.args.walked.faults.items c.args.recursive.items are c.in_ok-parts.ensures.lists c.in_ok-parts.ensures.names c.in_ok-parts.ensures.numbers cycles
