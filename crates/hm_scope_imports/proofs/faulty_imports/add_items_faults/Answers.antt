use Rattle.std.proofs.Common.{◌≡◌}
use Rattle.hm_syntax.specs.declared.ast.ImportItem.{ImportItem}
use Rattle.hm_syntax.specs.Names.{Identifier}
use Rattle.hm_names.specs.declared.faults.Fault.{Fault}
use Rattle.hm_names.specs.declared.faults.Kind.TheVariants.{NotExported}
use Rattle.hm_scope_imports.specs.FaultyItems.{IsItemFault}
use Rattle.hm_names.specs.Faults.Phases.{fault}
use Rattle.hm_names.proofs.AddedPairs.{for_more, for_all}
use Rattle.hm_scope_imports.proofs.faulty_imports.add_items_faults.Goals as goal

pub loop-item-preserved : goal.loop-item-preserved
loop-item-preserved c = for_more (λ (j : ImportItem) (g : Fault). (k : Identifier) × (IsItemFault c.args.interface.now k j × (fault NotExported k ≡ g))) c.args.faults.now.items c.loop-item.faults.items c.add_item_faults.new.faults.items c.args.items.now c.loop-item.item-index c.item-item.result c.loop-item-test.true c.item-item.is c.loop-item.invariant c.in_ok-add_item_faults.ensures

pub returns : goal.returns
returns c = for_all (λ (j : ImportItem) (g : Fault). (k : Identifier) × (IsItemFault c.args.interface.now k j × (fault NotExported k ≡ g))) c.args.faults.now.items c.loop-item.faults.items c.args.items.now c.loop-item.item-index c.loop-item-test.false c.loop-item.invariant
