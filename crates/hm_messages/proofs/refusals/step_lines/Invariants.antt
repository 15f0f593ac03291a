use Rattle.hm_messages.specs.Pages.{files_in, texts_in}
use Rattle.hm_messages.proofs.Ways.{AreWaysStated}
use Rattle.hm_messages.proofs.refusals.step_lines.Given as goal

abbrev pub invariant-loop-step : goal.invariant-loop-step
invariant-loop-step l = AreWaysStated l.pages.format (files_in l.pages.items.items) (texts_in l.pages.items.items) l.text.items
