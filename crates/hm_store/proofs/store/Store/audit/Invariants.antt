use Rattle.std.proofs.Common.{take, All}
use Rattle.hm_store.specs.Agreement.{RecordAgrees}
use Rattle.hm_store.proofs.store.Store.audit.Given as goal

abbrev pub invariant-loop-log : goal.invariant-loop-log
invariant-loop-log l = All (RecordAgrees l.self) (take l.log-index l.records)
