use Rattle.std.proofs.Common.{rules, ◌≡◌, ◌++◌}
use Rattle.hm_build_messages.specs.Explanations.{IsBlameMessage, blamed_of}
use Rattle.hm_build_messages.proofs.Told.{viewed_more}
use Rattle.hm_build_messages.proofs.explaining.blame_messages.Goals as goal

pub loop-blame-preserved : goal.loop-blame-preserved
loop-blame-preserved c =
    let page = c.args.page.now in
    let message = c.in_ok-message.message.items in
    let pushed : c.extend_from_slice.new.self.items ≡ c.loop-blame.text.items ++ message = search rules in
    viewed_more blamed_of (IsBlameMessage c.args.pages.now.format page.file.now page.lines) c.args.blames.now c.loop-blame.blame-index _ c.loop-blame.text.items c.extend_from_slice.new.self.items message (search rules) c.loop-blame.invariant c.in_ok-message.ensures pushed
