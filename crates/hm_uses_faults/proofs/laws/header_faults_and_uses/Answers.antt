use Rattle.hm_uses_faults.proofs.Headers.{header_faults}
use Rattle.hm_uses_faults.proofs.laws.header_faults_and_uses.Goals as goal

pub returns : goal.returns
returns c = header_faults
