use Rattle.std.proofs.Common.{◌≡◌, take}
use Rattle.hm_syntax.specs.declared.ast.ImportItem.{ImportItem}
use Rattle.hm_syntax.specs.Names.{Identifier}
use Rattle.hm_names.specs.declared.faults.Fault.{Fault}
use Rattle.hm_names.specs.declared.faults.Kind.TheVariants.{NotExported}
use Rattle.hm_names.specs.Bindings.{Adds}
use Rattle.hm_scope_imports.specs.FaultyItems.{IsItemFault}
use Rattle.hm_names.specs.Faults.Phases.{fault}
use Rattle.hm_names.proofs.AddedPairs.{ForEach}
use Rattle.hm_scope_imports.proofs.faulty_imports.add_items_faults.Given as goal

abbrev pub invariant-loop-item : goal.invariant-loop-item
invariant-loop-item l = Adds l.initial.faults.items l.faults.items (ForEach (λ (j : ImportItem) (g : Fault). (k : Identifier) × (IsItemFault l.interface k j × (fault NotExported k ≡ g))) (take l.item-index l.items))
