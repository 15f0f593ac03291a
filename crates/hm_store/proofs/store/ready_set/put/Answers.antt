use Rattle.hm_store.proofs.OpenImports.{pushed}
use Rattle.std.proofs.Common.{refl}
use Rattle.hm_store.proofs.store.ready_set.put.Goals as goal

pub returns-clause-each : goal.returns-clause-each
returns-clause-each c = pushed c.args.number _ _ _ refl c.in-Ok.ensures.permutation
