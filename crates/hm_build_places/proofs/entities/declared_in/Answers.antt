use Rattle.std.proofs.Common.{rules, ◌∙◌, ap, map, subst, sym}
use Rattle.std.specs.Arc.{arc_value}
use Rattle.hm_types.specs.Interfaces.{Exports as Interface}
use Rattle.hm_names.specs.Imports.{AreImportsOf}
use Rattle.hm_scope_imports.proofs.Apart.{imports_are_apart}
use Rattle.hm_verdicts.specs.Sets.{module_at}
use Rattle.hm_build_places.specs.Views.{known_of}
use Rattle.hm_build_places.proofs.entities.declared_in.Goals as goal

pub uses_of-requires : goal.uses_of-requires
uses_of-requires c =
    let m = module_at (known_of c.args.view.now).set c.args.number in
    let are : AreImportsOf m (map arc_value c.in-Some.imports.items) = search rules in
    imports_are_apart m c.deref-prelude.result.now (map arc_value c.as_slice.result.now) (ap (λ (f : Interface). f.name) (c.deref-prelude.ensures ∙ c.interface.ensures))
    (subst (λ l. AreImportsOf m (map arc_value l)) (sym c.as_slice.ensures.value) are)
