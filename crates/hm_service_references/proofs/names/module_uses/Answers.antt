use Rattle.std.proofs.Common.{◌≡◌, ◌∙◌, Some, ap, map, option_map, subst, sym}
use Rattle.std.specs.Arc.{arc_value}
use Rattle.hm_names.specs.Imports.{AreImportsOf}
use Rattle.hm_scope_imports.proofs.Apart.{imports_are_apart}
use Rattle.hm_service_references.specs.Imported.{IsImported, interfaces_in}
use Rattle.hm_service_references.specs.Views.{known_of}
use Rattle.hm_types.specs.Interfaces.{Exports as Interface}
use Rattle.hm_verdicts.specs.Sets.{module_at}
use Rattle.hm_service_references.proofs.names.module_uses.Goals as goal

pub uses_of-requires : goal.uses_of-requires
uses_of-requires c =
    let k = known_of c.args.view.now in
    let m = module_at k.set c.args.number in
    let same : interfaces_in c.args.imported.now ≡ Some (map arc_value c.in-Some.imports.items) = ap (option_map (λ v. map arc_value v.items)) c.in-Some.is in
    let are : AreImportsOf m (map arc_value c.in-Some.imports.items) = (subst (IsImported k c.args.number) same c.requires.imported).1 in
    imports_are_apart m c.deref-prelude.result.now (map arc_value c.as_slice.result.now) (ap (λ (f : Interface). f.name) (c.deref-prelude.ensures ∙ c.interface.ensures))
    (subst (λ l. AreImportsOf m (map arc_value l)) (sym c.as_slice.ensures.value) are)
