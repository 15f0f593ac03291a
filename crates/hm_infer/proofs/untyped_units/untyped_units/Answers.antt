use Rattle.std.proofs.Common.{◌∙◌, ◌<◌, All, length, sym, ap, map, subst}
use Rattle.std.specs.Arc.{arc_value}
use Rattle.hm_names.specs.Cores.{assumed, imported_values}
use Rattle.hm_names.specs.ModuleCores.{ModuleCore}
use Rattle.hm_infer_context.specs.Constructors.{known_of}
use Rattle.hm_infer_context.specs.Environments.{assumptions}
use Rattle.hm_infer.specs.UnitStarts.{AreFaultStarts, IsCoreList}
use Rattle.hm_infer.proofs.Untyped.{core_untyped, starts_inside}
use Rattle.hm_infer.proofs.untyped_units.untyped_units.Goals as goal

pub told_faults-requires : goal.told_faults-requires
told_faults-requires c =
    let o : IsCoreList (known_of c.args.constructors.now) c.as_slice-decls.result.now = record { core = c.args.core.now; is_core = c.requires.core; known_is = sym c.requires.known; decls_are = sym (c.as_slice-decls.ensures ∙ ap (λ (k : ModuleCore). k.decls) c.core.view_is) } in
    let a : AreFaultStarts c.args.core.now (assumptions c.in_ok-environment.environment) c.deref.result.now = subst (AreFaultStarts c.args.core.now (assumptions c.in_ok-environment.environment)) (sym c.deref.ensures.value) (c.in_ok-starts.ensures o) in
    subst (λ z. All (λ p. p < length z) c.deref.result.now) o.decls_are (starts_inside c.args.core.now (assumptions c.in_ok-environment.environment) c.deref.result.now a)

pub returns : goal.returns
returns c =
    let o : IsCoreList (known_of c.args.constructors.now) c.as_slice-decls.result.now = record { core = c.args.core.now; is_core = c.requires.core; known_is = sym c.requires.known; decls_are = sym (c.as_slice-decls.ensures ∙ ap (λ (k : ModuleCore). k.decls) c.core.view_is) } in
    let a : AreFaultStarts c.args.core.now (assumptions c.in_ok-environment.environment) c.deref.result.now = subst (AreFaultStarts c.args.core.now (assumptions c.in_ok-environment.environment)) (sym c.deref.ensures.value) (c.in_ok-starts.ensures o) in
    core_untyped c.args.core.now c.requires.core (assumptions c.in_ok-environment.environment)
    (c.in_ok-environment.ensures.assumed ∙ ap (λ fs. assumed (imported_values fs)) (ap (map arc_value) c.as_slice.ensures ∙ ap (λ (k : ModuleCore). k.interfaces) c.core.view_is))
    c.deref.result.now c.in_ok-told_faults.field-0 a c.requires.untyped
    (λ units s. c.in_ok-told_faults.ensures c.args.core.now units o.decls_are s)
