use Rattle.std.proofs.Common.{rules, arith}
use Rattle.hm_lsp_positions.proofs.Starts.{never_cut, next_cut, start_zero}
use Rattle.hm_lsp_positions.proofs.lines.line_start.Goals as goal

pub lines-init : goal.lines-init
lines-init c = (start_zero c.args.text.now, omega arith)

pub returns-in-None-clause-value : goal.returns-in-None-clause-value
returns-in-None-clause-value c = never_cut c.lines._number c.args.line c.lines.start c.args.text.now (search rules) c.lines.invariant.0 c.in-None.ensures.value

pub lines-preserved : goal.lines-preserved
lines-preserved c = (next_cut c.lines._number c.lines.start c.in-Some.next c.args.text.now c.lines.invariant.0 c.in-Some.ensures.value, search rules)
