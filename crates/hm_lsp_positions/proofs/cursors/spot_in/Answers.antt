use Rattle.std.proofs.Common.{rules, ◌≡◌, ◌≤◌, ◌*◌, ◌-◌}
use Rattle.hm_lsp_positions.proofs.Walking.{spot_later}
use Rattle.hm_lsp_positions.proofs.cursors.spot_in.Goals as goal

pub returns-clause-spot : goal.returns-clause-spot
returns-clause-spot c =
    let same : c.args.from.line.number ≡ c.args.line.number = search rules in
    let low : c.args.from.offset ≤ c.args.offset = search rules in
    let small : c.units-more.result ≤ 2 * (c.args.offset - c.args.from.offset) = search rules in
    spot_later c.args.encoding c.args.text.now c.args.from c.args.line c.args.offset c.units-more.result c.requires.from c.requires.line same low c.requires.within c.units-more.ensures.units small
