use Rattle.hm_lsp_positions.proofs.Walking.{in_line, past_lines}
use Rattle.std.proofs.Common.{rules, ◌≡◌}
use Rattle.hm_lsp_positions.proofs.cursors.offset_from.Goals as goal

pub returns-then-line-position-clause-place : goal.returns-then-line-position-clause-place
returns-then-line-position-clause-place c =
    past_lines c.args.text.now c.line_at-line.result c.args.position c.line_at-line.ensures.line c.line_at-line.ensures.found c.if-line-position.true

pub returns-clause-place : goal.returns-clause-place
returns-clause-place c =
    let same : c.line_at-line.result.number ≡ c.args.position.line = search rules in
    in_line c.args.text.now c.line_at-line.result c.args.position c.byte_column.result c.line_at-line.ensures.line same c.byte_column.ensures
