use Rattle.std.proofs.Common.{◌≡◌, ap, refl, ◌∙◌}
use Rattle.hm_syntax.specs.Lists.{types}
use Rattle.hm_uses.specs.Found.{type_uses, types_uses}
use Rattle.hm_uses_declarations.specs.Walking.{Walking, innermost}
use Rattle.hm_uses_declarations.proofs.Steps.{row_more}
use Rattle.hm_uses_declarations.proofs.walking.Walk.+types.Goals as goal

pub type_row-row-preserved : goal.type_row-row-preserved
type_row-row-preserved t c = record {
  state = row_more (λ k gs. type_uses k (innermost c.args.binders.now)) (λ k gs ts. types_uses k (innermost c.args.binders.now) (types ts)) (λ k gs x rest. refl) c.args.row.now c.row.ty-index c.ty-item.result c.row.self c.type_uses.new.self c.args.self.now c.row-test.true c.ty-item.is c.in_ok-type_uses.ensures c.row.invariant.known c.row.invariant.groups c.row.invariant.state;
  known = ap (λ (w : Walking). w.known) c.in_ok-type_uses.ensures ∙ c.row.invariant.known;
  groups = ap (λ (w : Walking). w.groups) c.in_ok-type_uses.ensures ∙ c.row.invariant.groups;
}
