use Rattle.std.proofs.lemmas.Bool.{false≢true}
use Rattle.hm_store.proofs.Marking.{written_twice}
use Rattle.hm_store.proofs.store.audit.marks.is_each_written_once.Goals as goal

pub returns-then-not-mark_all : goal.returns-then-not-mark_all
returns-then-not-mark_all c = (
  λ e. absurd (false≢true e),
  λ once. absurd (written_twice c.loop-record.marks.items c.deref_mut.result.now c.args.entries c.args.records.now c.loop-record.record-index c.record-item.result c.deref.result.now c.loop-record.invariant c.loop-record-test.true c.record-item.is
      c.deref_mut.ensures.value c.deref.ensures.value (c.mark_all.ensures.no c.if-not-mark_all.true) once),
)
