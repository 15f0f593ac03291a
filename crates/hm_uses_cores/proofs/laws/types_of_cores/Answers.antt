use Rattle.hm_uses_cores.proofs.Written.{cores_keep_types}
use Rattle.hm_uses_cores.proofs.laws.types_of_cores.Goals as goal

pub returns : goal.returns
returns c = cores_keep_types
