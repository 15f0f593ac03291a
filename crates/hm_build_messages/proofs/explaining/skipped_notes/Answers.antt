use Rattle.std.proofs.Common.{rules, ◌≡◌, ◌++◌}
use Rattle.hm_messages.specs.Pages.{files_in, texts_in}
use Rattle.hm_messages.proofs.InOrder.{taken_more}
use Rattle.hm_build_messages.specs.Explanations.{IsSkippedStated}
use Rattle.hm_build_reports.specs.Settling.{module_set, statuses_of}
use Rattle.hm_build_messages.proofs.explaining.skipped_notes.Goals as goal

pub source_of-source-requires-clause-number : goal.source_of-source-requires-clause-number
source_of-source-requires-clause-number c = c.requires.rows c.loop-row.row-index _ c.loop-row-test.true

pub skipped_messages-requires-clause-number : goal.skipped_messages-requires-clause-number
skipped_messages-requires-clause-number c = c.requires.rows c.loop-row.row-index _ c.loop-row-test.true

pub loop-row-preserved : goal.loop-row-preserved
loop-row-preserved c =
    let told = c.args.view.now in
    let message = c.in_ok-notes.notes.items in
    let pushed : c.extend_from_slice.new.self.items ≡ c.loop-row.text.items ++ message = search rules in
    taken_more (λ r m. IsSkippedStated told.pages.now.format (files_in told.pages.now.items.items) (texts_in told.pages.now.items.items) (module_set told.modules.now told.plan.now) (statuses_of told.settled.now) r.number m)
    c.args.rows.now c.loop-row.row-index _ c.loop-row.text.items c.extend_from_slice.new.self.items message (search rules) c.loop-row.invariant
    (c.source_of-source.result, c.source_of-source.ensures.spelled, c.in_ok-notes.ensures) pushed
