use Rattle.hm_store.proofs.Marking.{marked_by_then}
use Rattle.hm_store.proofs.store.audit.marks.mark_all.Goals as goal

pub returns-then-not-mark_written-clause-no : goal.returns-then-not-mark_written-clause-no
returns-then-not-mark_written-clause-no c _ = marked_by_then c.args.marks.now c.loop-call.marks c.args.calls.now c.loop-call.call-index c.call-item.result c.loop-call.invariant c.loop-call-test.true c.call-item.is
    (c.mark_written.ensures.no c.if-not-mark_written.true)
