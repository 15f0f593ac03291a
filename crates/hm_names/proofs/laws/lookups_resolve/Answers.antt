use Rattle.hm_names.proofs.Resolves.{resolves}
use Rattle.hm_names.proofs.laws.lookups_resolve.Goals as goal

pub returns : goal.returns
returns c = resolves
