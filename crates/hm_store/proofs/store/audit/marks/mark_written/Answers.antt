use Rattle.std.proofs.Common.{slice_index_or, false, sym, ◌∙◌}
use Rattle.hm_store.proofs.Marking.{marked_already, from_not_false}
use Rattle.hm_store.proofs.store.audit.marks.mark_written.Goals as goal

pub returns-clause-no : goal.returns-clause-no
returns-clause-no c is = marked_already c.args.marks.now c.args.call.now (sym c.writes.ensures ∙ c.if-not-writes.false) c.if-call-marks.false
    (from_not_false (slice_index_or c.args.marks.now c.args.call.now.at false) is)
