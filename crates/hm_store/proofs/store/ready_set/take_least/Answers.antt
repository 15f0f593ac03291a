use Rattle.std.proofs.Common.{refl}
use Rattle.hm_store.proofs.OpenImports.{popped}
use Rattle.hm_store.proofs.store.ready_set.take_least.Goals as goal

pub returns-in-Some-clause-each : goal.returns-in-Some-clause-each
returns-in-Some-clause-each c = popped c.in-Some.field-0.0 c.in-Some.field-0 _ _ refl c.in-Some.ensures.permutation
