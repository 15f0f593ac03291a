use Rattle.std.proofs.Common.{rules, ◌≡◌, ◌++◌}
use Rattle.hm_messages.specs.Pages.{texts_in}
use Rattle.hm_messages.proofs.refusals.cycle_messages.Goals as goal

pub message_at-requires : goal.message_at-requires
message_at-requires c = c.cycle_spot-spot.ensures.inside (texts_in c.args.pages.now.items.items) c.requires.located

pub returns : goal.returns
returns c =
    let spot = c.cycle_spot-spot.result in
    let first = c.in_ok-text.text.items in
    let lines = c.in_ok-lines.lines.items in
    let whole : c.extend_from_slice.new.self.items ≡ first ++ lines = search rules in
    let ways = c.in_ok-lines.ensures in (
      spot.source,
      spot.place,
      record {
        first = first;
        stated = c.in_ok-text.ensures;
        ways = ways.0;
        lines = lines;
        steps = ways.1;
        whole = whole;
      },
      c.cycle_spot-spot.ensures.named (texts_in c.args.pages.now.items.items) c.requires.located,
    )
