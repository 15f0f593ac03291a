use Rattle.std.proofs.Common.{rules, arith}
use Rattle.hm_lsp_positions.proofs.Starts.{after_last, after_none, next_cut, no_next_cut, start_zero}
use Rattle.hm_lsp_positions.proofs.positions.line_at.Goals as goal

pub lines-init : goal.lines-init
lines-init c = (start_zero c.args.text.now, omega arith, omega arith)

pub returns-then-next-offset-clause-last : goal.returns-then-next-offset-clause-last
returns-then-next-offset-clause-last c =
    after_last c.in-Some.next c.lines.start c.args.offset _ (next_cut c.lines.line c.lines.start c.in-Some.next c.args.text.now c.lines.invariant.0 c.in-Some.ensures.value) (search rules)

pub lines-preserved : goal.lines-preserved
lines-preserved c =
    let some = c.in-Some.ensures.some in
    let count = c.lines.invariant.2 in
    (next_cut c.lines.line c.lines.start c.in-Some.next c.args.text.now c.lines.invariant.0 c.in-Some.ensures.value, search rules, omega (arith, some, count))

pub returns-clause-last : goal.returns-clause-last
returns-clause-last c = after_none c.args.offset _ (no_next_cut c.lines.line c.lines.start c.args.text.now c.lines.invariant.0 c.in_default.ensures.value)
