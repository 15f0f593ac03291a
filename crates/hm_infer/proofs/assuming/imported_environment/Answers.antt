use Rattle.std.proofs.Common.{◌∙◌, ap, refl}
use Rattle.std.specs.Arc.{arc_value}
use Rattle.hm_types.specs.Interfaces.{Exports as Interface}
use Rattle.hm_infer_context.specs.Environments.{assumptions}
use Rattle.hm_infer.proofs.CoreTables.{interface_step}
use Rattle.hm_infer.proofs.assuming.imported_environment.Goals as goal

pub interfaces-preserved : goal.interfaces-preserved
interfaces-preserved c = record {
  assumed = interface_step arc_value c.args.interfaces.now c.interfaces.behind _ c.index-interfaces-place.result c.values.result.now (assumptions c.interfaces.environment) (assumptions c.assume_values.new.environment) c.interfaces-test.true c.index-interfaces-place.is refl
      (c.values.ensures.value ∙ ap (λ (f : Interface). f.values) c.deref.ensures) c.interfaces.invariant.assumed c.in_ok-assume_values.ensures.assumed;
  closed = c.in_ok-assume_values.ensures.closed c.interfaces.invariant.closed;
}
