use Rattle.std.proofs.Common.{◌≡◌, ap, refl, ◌∙◌}
use Rattle.std.specs.Prelude.{true}
use Rattle.hm_uses.specs.declared.name_kind.NameKind.TheVariants.{TypeVariable}
use Rattle.hm_uses.specs.Found.{use_as, parameter_sense, parameter_uses}
use Rattle.hm_uses_declarations.specs.Walking.{Walking, innermost}
use Rattle.hm_uses_declarations.proofs.Steps.{row_more}
use Rattle.hm_uses_declarations.proofs.walking.Walk.parameters.Goals as goal

pub row-preserved : goal.row-preserved
row-preserved c = record {
  state = row_more (λ k gs n. use_as TypeVariable true n (parameter_sense n.text (innermost c.args.binders.now))) (λ k gs ns. parameter_uses (innermost c.args.binders.now) ns) (λ k gs x rest. refl) c.args.params.now c.row.param-index c.param-item.result c.row.self c.type_variable.new.self c.args.self.now c.row-test.true c.param-item.is c.in_ok-type_variable.ensures c.row.invariant.known c.row.invariant.groups c.row.invariant.state;
  known = ap (λ (w : Walking). w.known) c.in_ok-type_variable.ensures ∙ c.row.invariant.known;
  groups = ap (λ (w : Walking). w.groups) c.in_ok-type_variable.ensures ∙ c.row.invariant.groups;
}
