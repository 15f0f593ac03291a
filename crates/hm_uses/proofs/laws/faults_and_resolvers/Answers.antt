use Rattle.hm_uses.proofs.Faults.{export_faults, resolvers_agree}
use Rattle.hm_uses.proofs.laws.faults_and_resolvers.Goals as goal

pub returns : goal.returns
returns c = record { exports = export_faults; resolvers = resolvers_agree }
