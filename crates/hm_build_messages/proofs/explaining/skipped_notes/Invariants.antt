use Rattle.std.proofs.Common.{take}
use Rattle.hm_messages.specs.Messages.{AreEach}
use Rattle.hm_messages.specs.Pages.{files_in, texts_in}
use Rattle.hm_build_messages.specs.Explanations.{IsSkippedStated}
use Rattle.hm_build_reports.specs.Settling.{module_set, statuses_of}
use Rattle.hm_build_messages.proofs.explaining.skipped_notes.Given as goal

abbrev pub invariant-loop-row : goal.invariant-loop-row
invariant-loop-row l =
    AreEach (λ r text. IsSkippedStated l.view.pages.now.format (files_in l.view.pages.now.items.items) (texts_in l.view.pages.now.items.items) (module_set l.view.modules.now l.view.plan.now) (statuses_of l.view.settled.now) r.number text)
    (take l.row-index l.rows) l.text.items
