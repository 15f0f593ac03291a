use Rattle.std.proofs.Common.{rules, List, map, subst, sym}
use Rattle.std.specs.Arc.{arc_value}
use Rattle.hm_types.specs.Interfaces.{Exports as Interface}
use Rattle.hm_names.specs.Imports.{AreImportsOf}
use Rattle.hm_store.specs.Builds.{set_of}
use Rattle.hm_store.specs.Settlements.{settlement}
use Rattle.hm_verdicts.specs.Sets.{imports_of, module_at}
use Rattle.hm_verdicts.specs.Verdicts.{ArePublished}
use Rattle.hm_service_references.proofs.Looked.{one_list, refuted}
use Rattle.hm_service_references.proofs.imported.imported_interfaces.Goals as goal

-- the interfaces aren't those of the imports
pub returns-then-not-branch-clause-none : goal.returns-then-not-branch-clause-none
returns-then-not-branch-clause-none c fs published are =
    let store = c.args.view.now.store.now in
    let numbers = imports_of (set_of store) c.args.number in
    let m = module_at (set_of store) c.args.number in
    let found = map arc_value c.in-Some.interfaces.items in
    let list : ArePublished (settlement store) numbers found = search rules in
    let same = one_list (settlement store) numbers fs found published list in
    let moved : AreImportsOf c.module_of.result.now (map arc_value c.as_slice.result.now) =
    subst (λ n. AreImportsOf n (map arc_value c.as_slice.result.now)) (sym c.module_of.ensures)
    (subst (λ l. AreImportsOf m (map arc_value l)) (sym c.as_slice.ensures.value) (subst (λ (l : List Interface). AreImportsOf m l) same are)) in
    refuted c.in_ok-are_imports_of.field-0 (AreImportsOf c.module_of.result.now (map arc_value c.as_slice.result.now)) c.in_ok-are_imports_of.ensures c.if-not-branch.true moved
