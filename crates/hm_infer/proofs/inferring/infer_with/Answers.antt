use Rattle.std.proofs.Common.{◌∙◌, ◌∷◌, ap, map, subst, subst₂}
use Rattle.std.specs.Arc.{arc_value}
use Rattle.hm_types.specs.StandardPrelude.{prelude_interface}
use Rattle.hm_names.specs.Cores.{assumed, imported_values}
use Rattle.hm_names.specs.ModuleCores.{ModuleCore}
use Rattle.hm_names.specs.SchemeTables.{scheme_of}
use Rattle.hm_infer_expressions.specs.OwnSchemes.{HaveCanonical}
use Rattle.hm_infer_expressions.specs.PrincipalLists.{IsInferred}
use Rattle.hm_infer_expressions.specs.Stages.{list_of}
use Rattle.hm_infer_context.specs.Constructors.{known_of}
use Rattle.hm_infer.proofs.NoTyping.{no_typing}
use Rattle.hm_infer.proofs.OwnSchemes.{are_principal}
use Rattle.hm_infer.proofs.inferring.infer_with.Goals as goal

pub returns-in-Ok-clause-schemes : goal.returns-in-Ok-clause-schemes
returns-in-Ok-clause-schemes c =
    let r = c.requires.core in
    let es = c.in_ok-environment.environment in
    let es1 = c.infer_list.new.inference.environment in
    let given = scheme_of c.in_ok-own_schemes-in-Ok.field-0 in
    are_principal r.module_of (prelude_interface ∷ r.imports) c.args.core.now r.is_core c.in_ok-environment.environment c.infer_list.new.inference.environment
    (c.in_ok-environment.ensures.assumed ∙ ap (λ fs. assumed (imported_values fs)) (ap (map arc_value) c.as_slice.ensures ∙ ap (λ (k : ModuleCore). k.interfaces) c.core.view_is))
    c.in-Ok.ensures.closed
    (subst₂ (λ k ds. IsInferred (list_of k ds) c.in_ok-environment.environment c.infer_list.new.inference.environment) c.requires.known (c.as_slice-list.ensures ∙ ap (λ (k : ModuleCore). k.decls) c.core.view_is) c.in-Ok.ensures.inferred)
    (scheme_of c.in_ok-own_schemes-in-Ok.field-0)
    (subst (λ h. HaveCanonical h c.infer_list.new.inference.environment (scheme_of c.in_ok-own_schemes-in-Ok.field-0)) (c.as_str.ensures ∙ ap (λ (k : ModuleCore). k.name) c.core.view_is) c.in_ok-own_schemes-in-Ok.ensures)

pub untypable-requires-clause-untyped : goal.untypable-requires-clause-untyped
untypable-requires-clause-untyped c = no_typing c.args.core.now (known_of c.args.constructors.now) c.as_slice-list.result.now c.in_ok-environment.environment c.infer_list.new.inference.environment c.in-Err-Clash.field-0 c.in-Err-Clash.field-0-is c.requires.known
    (c.as_slice-list.ensures ∙ ap (λ (k : ModuleCore). k.decls) c.core.view_is)
    (c.in_ok-environment.ensures.assumed ∙ ap (λ fs. assumed (imported_values fs)) (ap (map arc_value) c.as_slice.ensures ∙ ap (λ (k : ModuleCore). k.interfaces) c.core.view_is))
    c.in-Err-Clash.ensures.inferred
