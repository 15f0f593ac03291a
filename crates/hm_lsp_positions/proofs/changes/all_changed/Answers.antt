use Rattle.std.proofs.Common.{List, rules, subst, ℕ}
use Rattle.hm_lsp_positions.specs.Changes.{IsApplied, IsReversed}
use Rattle.hm_lsp_positions.proofs.Applying.{all_applied, one_applied, one_passed, one_reversed}
use Rattle.hm_lsp_positions.proofs.changes.all_changed.Goals as goal

pub changes-init : goal.changes-init
changes-init c = (search rules, search rules, c.in_ok-starts.ensures c.in_ok-made.made.items)

pub changes-preserved : goal.changes-preserved
changes-preserved c =
    let applied = subst (λ (t : List ℕ). IsApplied c.args.encoding t c.change-item.result c.in-Ok.next.items) c.as_slice.ensures.value c.in-Ok.ensures.made in (
      one_applied c.args.encoding c.args.text.now c.changes.made.items c.in-Ok.next.items c.args.changes.now c.changes.change-index c.change-item.result (search rules) (search rules) applied c.changes.invariant.0,
      one_passed c.args.encoding c.args.text.now c.changes.made.items c.in-Ok.next.items c.args.changes.now c.changes.change-index c.change-item.result (search rules) (search rules) applied c.changes.invariant.1,
      c.in-Ok.ensures.starts,
    )

pub returns-clause-made : goal.returns-clause-made
returns-clause-made c = all_applied c.args.encoding c.args.text.now c.changes.made.items c.args.changes.now c.changes.change-index (search rules) c.changes.invariant.0

pub returns-in-Err-clause-reversed : goal.returns-in-Err-clause-reversed
returns-in-Err-clause-reversed c h =
    one_reversed c.args.encoding c.args.text.now c.changes.made.items c.args.changes.now c.changes.change-index c.change-item.result (search rules) (search rules)
    (subst (λ (t : List ℕ). IsReversed c.args.encoding t c.change-item.result) c.as_slice.ensures.value (c.in-Err.ensures.reversed h)) c.changes.invariant.1
