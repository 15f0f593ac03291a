use Rattle.hm_syntax.specs.declared.ast.ImportItem.{ImportItem}
use Rattle.hm_scope_tables.specs.NameSets.{FullName}
use Rattle.hm_scope_imports.specs.Gathered.{IsNamedBy}
use Rattle.hm_names.proofs.AddedPairs.{for_more, for_all}
use Rattle.hm_scope_imports.proofs.selections.gather_all_names.Goals as goal

pub loop-item-preserved : goal.loop-item-preserved
loop-item-preserved c = for_more (λ (j : ImportItem) (n : FullName). IsNamedBy c.args.list_use c.args.interface.now n j) c.args.names.now c.loop-item.names c.gather_names.new.names c.args.items.now c.loop-item.item-index c.item-item.result c.loop-item-test.true c.item-item.is c.loop-item.invariant c.in_ok-gather_names.ensures

pub returns : goal.returns
returns c = for_all (λ (j : ImportItem) (n : FullName). IsNamedBy c.args.list_use c.args.interface.now n j) c.args.names.now c.loop-item.names c.args.items.now c.loop-item.item-index c.loop-item-test.false c.loop-item.invariant
