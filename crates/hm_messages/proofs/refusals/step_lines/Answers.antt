use Rattle.std.proofs.Common.{rules, ◌≡◌, ◌++◌}
use Rattle.hm_messages.specs.Pages.{files_in, texts_in}
use Rattle.hm_messages.proofs.Ways.{more_ways}
use Rattle.hm_messages.proofs.refusals.step_lines.Goals as goal

pub loop-step-preserved : goal.loop-step-preserved
loop-step-preserved c =
    let pages = c.args.pages.now in
    let line = c.in_ok-line.line.items in
    let text = c.loop-step.text.items in
    let pushed : c.extend_from_slice.new.self.items ≡ text ++ line = search rules in
    more_ways pages.format (files_in pages.items.items) (texts_in pages.items.items) text line c.extend_from_slice.new.self.items c.loop-step.invariant c.in_ok-line.ensures pushed
