use Rattle.hm_uses_references.proofs.WorkedNames.{worked_others, worked_variables}
use Rattle.hm_uses_references.proofs.laws.worked_meanings.Goals as goal

pub returns-clause-variables : goal.returns-clause-variables
returns-clause-variables c = worked_variables

pub returns-clause-others : goal.returns-clause-others
returns-clause-others c = worked_others
