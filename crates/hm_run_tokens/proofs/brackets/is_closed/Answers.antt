use Rattle.std.proofs.Common.{arith, ap, sym, ◌∙◌}
use Rattle.std.proofs.lemmas.Bool.{eqb-true}
use Rattle.std.proofs.lemmas.List.{take_all}
use Rattle.hm_run_tokens.specs.Depths.{token_depth}
use Rattle.hm_run_tokens.proofs.BracketDepths.{closed_by_tokens, depth_on}
use Rattle.hm_run_tokens.proofs.brackets.is_closed.Goals as goal

pub depth_past-depth-requires-clause-lies : goal.depth_past-depth-requires-clause-lies
depth_past-depth-requires-clause-lies c = c.token_texts.ensures c.args.text.now c.args.tokens.now c.requires c.tokens.number _ c.tokens-test.true

pub tokens-preserved : goal.tokens-preserved
tokens-preserved c =
    let on = depth_on _ _ _ _ _ _ c.tokens-test.true c.tokens.invariant.0 c.depth_past-depth.ensures.depth in
    (on, omega (arith, c.tokens.invariant.1, c.depth_past-depth.ensures.low))

pub returns : goal.returns
returns c = λ e.
    let all = take_all c.tokens.number c.args.tokens.now c.tokens-test.false in
    closed_by_tokens c.args.text.now c.args.tokens.now c.requires (ap (token_depth c.args.text.now 0) (sym all) ∙ sym c.tokens.invariant.0 ∙ eqb-true c.tokens.depth 0 e)
