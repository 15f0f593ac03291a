use Rattle.hm_uses_cores.proofs.Cores.{cores_keep_meanings}
use Rattle.hm_uses_cores.proofs.Each.{cores_have_uses}
use Rattle.hm_uses_cores.proofs.laws.cores_and_uses.Goals as goal

pub returns : goal.returns
returns c = record { each = cores_have_uses; all = cores_keep_meanings }
