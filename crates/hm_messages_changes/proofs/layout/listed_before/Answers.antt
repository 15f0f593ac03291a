use Rattle.std.proofs.Common.{rules, ◌≡◌, take}
use Rattle.std.specs.Prelude.{codes, flat_map}
use Rattle.hm_messages_changes.specs.Probes.{hollowed, listed}
use Rattle.hm_messages_changes.proofs.Pieces.{four_joined}
use Rattle.hm_messages_changes.proofs.layout.listed_before.Goals as goal

pub returns : goal.returns
returns c =
    let layout = c.args.layout.now in
    let source = layout.source.now in
    let names : c.as_slice.result.now ≡ flat_map (listed source) layout.names.now = search rules in
    let after : c.as_slice-2.result.now ≡ hollowed source c.args.at layout.whole.from layout.before.now = search rules in
    four_joined (take c.args.at source) (codes "part'types , ") (flat_map (listed source) layout.names.now) (hollowed source c.args.at layout.whole.from layout.before.now)
    c.in_ok-joined.field-0.items (rw (names, after) at c.in_ok-joined.ensures)
