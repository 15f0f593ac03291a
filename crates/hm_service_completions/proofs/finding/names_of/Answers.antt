use Rattle.std.proofs.Common.{rules, ◌≡◌, ◌∙◌, None, Some, ap, map, option_map, subst, sym}
use Rattle.std.specs.Arc.{arc_value}
use Rattle.hm_names.specs.Imports.{AreImportsOf}
use Rattle.hm_scope_imports.proofs.Apart.{imports_are_apart}
use Rattle.hm_service_references.specs.Imported.{IsImported, interfaces_in}
use Rattle.hm_service_references.specs.Views.{known_of}
use Rattle.hm_types.specs.Interfaces.{Exports as Interface}
use Rattle.hm_verdicts.specs.Sets.{module_at}
use Rattle.hm_service_completions.specs.Completions.{interface_by, of_module}
use Rattle.hm_service_completions.proofs.OwnInterfaces.{typed_by}
use Rattle.hm_types.specs.StandardPrelude.{prelude_interface}
use Rattle.hm_service_completions.proofs.finding.names_of.Goals as goal

pub typed_names-requires : goal.typed_names-requires
typed_names-requires c =
    let k = known_of c.args.view.now in
    let m = module_at k.set c.args.number in
    let same : interfaces_in c.args.imported.now ≡ Some (map arc_value c.in-Some.imports.items) = ap (option_map (λ v. map arc_value v.items)) c.in-Some.is in
    let are : AreImportsOf m (map arc_value c.in-Some.imports.items) = (subst (IsImported k c.args.number) same c.requires.imported).1 in
    imports_are_apart m c.deref-prelude.result.now (map arc_value c.as_slice.result.now) (ap (λ (f : Interface). f.name) (c.deref-prelude.ensures ∙ c.interface.ensures))
    (subst (λ l. AreImportsOf m (map arc_value l)) (sym c.as_slice.ensures.value) are)

pub returns : goal.returns
returns c =
    let k = known_of c.args.view.now in
    let n = c.args.number in
    let same : interfaces_in c.args.imported.now ≡ Some (map arc_value c.in-Some.imports.items) = ap (option_map (λ v. map arc_value v.items)) c.in-Some.is in
    of_module (subst (IsImported k n) same c.requires.imported)
    (typed_by c.module_of-module.result.now (module_at k.set n) c.deref-prelude.result.now prelude_interface (map arc_value c.as_slice.result.now) (map arc_value c.in-Some.imports.items) (option_map (λ f. f.now) c.own_interface-own.result)
    (interface_by (k.status n)) c.args.prefix.now c.in_ok-typed_names.field-0.items c.module_of-module.ensures (c.deref-prelude.ensures ∙ c.interface.ensures) (ap (map arc_value) c.as_slice.ensures.value) c.own_interface-own.ensures
    c.in_ok-typed_names.ensures)
