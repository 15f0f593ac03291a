use Rattle.std.proofs.Common.{take}
use Rattle.hm_syntax.specs.declared.ast.ImportItem.{ImportItem}
use Rattle.hm_names.specs.Bindings.{Adds}
use Rattle.hm_scope_tables.specs.NameSets.{FullName}
use Rattle.hm_scope_imports.specs.Gathered.{IsNamedBy}
use Rattle.hm_names.proofs.AddedPairs.{ForEach}
use Rattle.hm_scope_imports.proofs.selections.gather_all_names.Given as goal

abbrev pub invariant-loop-item : goal.invariant-loop-item
invariant-loop-item l = Adds l.fn.names l.names (ForEach (λ (j : ImportItem) (n : FullName). IsNamedBy l.list_use l.interface n j) (take l.item-index l.items))
