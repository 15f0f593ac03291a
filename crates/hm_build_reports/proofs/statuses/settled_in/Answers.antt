use Rattle.std.proofs.Common.{rules, length, sym, ap, subst, ◌∙◌, ◌≤◌}
use Rattle.std.specs.Arc.{arc_value}
use Rattle.std.proofs.lemmas.List.{length-map}
use Rattle.hm_store.specs.Settlements.{settlement}
use Rattle.hm_build_reports.proofs.Tables.{table_more, table_whole}
use Rattle.hm_build_reports.proofs.statuses.settled_in.Goals as goal

pub loop-number-preserved : goal.loop-number-preserved
loop-number-preserved c = (
  search rules,
  table_more (settlement c.args.store.now) c.loop-number.settled.items c.push.new.self.items c.settled_at.result c.loop-number.number c.in_ok-push.ensures.items c.loop-number.invariant.0 c.loop-number.invariant.1 c.settled_at.ensures,
)

pub returns-clause-settled : goal.returns-clause-settled
returns-clause-settled c =
    let modules = c.modules-number-end.result.now in
    table_whole c.args.store.now c.loop-number.settled.items c.loop-number.number c.legal.ensures
    (subst (λ n. n ≤ c.loop-number.number) (sym (length-map modules arc_value) ∙ ap length c.modules-number-end.ensures) c.loop-number-test.false)
    c.loop-number.invariant.0 c.loop-number.invariant.1
