use Rattle.hm_typing.proofs.Ordering.{layout}
use Rattle.hm_typing.proofs.Unifying.{unification}
use Rattle.hm_typing.specs.Laws.{EveryExpressionIsAnswered}
use Rattle.hm_typing.proofs.Principal.{check_expression}
use Rattle.hm_typing.proofs.inference.every_expression_is_answered.Goals as goal

proof : EveryExpressionIsAnswered
proof e A t n E b c d = check_expression unification layout e A t n E b c d

pub returns : goal.returns
returns c = proof
