use Rattle.std.proofs.Common.{take}
use Rattle.hm_store.proofs.Marking.{AreMarked}
use Rattle.hm_store.proofs.store.audit.marks.is_each_written_once.Given as goal

abbrev pub invariant-loop-record : goal.invariant-loop-record
invariant-loop-record l = AreMarked l.marks.items l.entries (take l.record-index l.records)
