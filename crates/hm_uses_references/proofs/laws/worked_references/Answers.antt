use Rattle.hm_uses_references.proofs.WorkedNames.{worked_references}
use Rattle.hm_uses_references.proofs.laws.worked_references.Goals as goal

pub returns : goal.returns
returns c = worked_references
