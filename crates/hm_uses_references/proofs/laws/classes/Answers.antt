use Rattle.hm_uses_references.proofs.Classes.{symmetric, transitive}
use Rattle.hm_uses_references.proofs.laws.classes.Goals as goal

pub returns-clause-symmetric : goal.returns-clause-symmetric
returns-clause-symmetric c = symmetric

pub returns-clause-transitive : goal.returns-clause-transitive
returns-clause-transitive c = transitive
