use Rattle.std.proofs.Common.{◌∙◌, sym, refl, string_bytes}
use Rattle.hm_store.specs.Builds.{set_of}
use Rattle.hm_build_reports.proofs.JournalLines.{counted_same, counted_up, next_step}
use Rattle.hm_build_reports.proofs.journals.journal_text.Goals as goal
use Rattle.hm_build_reports.proofs.journals.journal_text.Goals.{then-is_publication, else-is_publication}

pub loop-entry-preserved : goal.loop-entry-preserved
loop-entry-preserved c =
    let es = c.journal-journal.result.now in
    next_step (set_of c.args.store.now) es c.loop-entry.entry-index _ _ (string_bytes c.loop-entry.text) (string_bytes c.add_entry.new.text) c.loop-entry.publications c.if-is_publication.publications c.loop-entry-test.true refl
    c.loop-entry.invariant.0 c.loop-entry.invariant.1 c.in_ok-add_entry.ensures
    (elim c.if-is_publication.branch [
      | then-is_publication w ↦ counted_up _ _ _ (sym c.is_publication.ensures ∙ w.if-is_publication.true) w.publications-is
      | else-is_publication w ↦ counted_same _ _ _ (sym c.is_publication.ensures ∙ w.if-is_publication.false) w.publications-is
    ])
