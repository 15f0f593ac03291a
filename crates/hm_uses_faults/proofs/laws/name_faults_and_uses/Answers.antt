use Rattle.hm_uses_faults.proofs.Faults.{name_faults}
use Rattle.hm_uses_faults.proofs.Uses.{uses_are_faults}
use Rattle.hm_uses_faults.proofs.laws.name_faults_and_uses.Goals as goal

pub returns-clause-faults : goal.returns-clause-faults
returns-clause-faults c = name_faults

pub returns-clause-uses : goal.returns-clause-uses
returns-clause-uses c = uses_are_faults
