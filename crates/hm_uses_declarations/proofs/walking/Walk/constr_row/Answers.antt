use Rattle.std.proofs.Common.{◌≡◌, ap, refl, ◌∙◌}
use Rattle.hm_syntax.specs.Lists.{constructors}
use Rattle.hm_uses.specs.Found.{declared_constructor_uses, declared_constructors_uses}
use Rattle.hm_uses_declarations.specs.Walking.{Walking, innermost}
use Rattle.hm_uses_declarations.proofs.Steps.{row_more}
use Rattle.hm_uses_declarations.proofs.walking.Walk.constr_row.Goals as goal

pub row-preserved : goal.row-preserved
row-preserved c = record {
  state = row_more (λ k gs. declared_constructor_uses k (innermost c.args.binders.now)) (λ k gs cs. declared_constructors_uses k (innermost c.args.binders.now) (constructors cs)) (λ k gs x rest. refl) c.args.row.now c.row.constr-index c.constr-item.result c.row.self c.constr.new.self c.args.self.now c.row-test.true c.constr-item.is c.in_ok-constr.ensures c.row.invariant.known c.row.invariant.groups c.row.invariant.state;
  known = ap (λ (w : Walking). w.known) c.in_ok-constr.ensures ∙ c.row.invariant.known;
  groups = ap (λ (w : Walking). w.groups) c.in_ok-constr.ensures ∙ c.row.invariant.groups;
}
