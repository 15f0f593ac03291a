use Rattle.hm_messages_variables.proofs.Scoped.{types_in_scope}
use Rattle.hm_messages_variables.proofs.laws.types_in_scope.Goals as goal

pub returns : goal.returns
returns c = types_in_scope
