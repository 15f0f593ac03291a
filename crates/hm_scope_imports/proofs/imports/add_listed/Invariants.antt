use Rattle.std.proofs.Common.{take}
use Rattle.hm_names.specs.Bindings.{Adds}
use Rattle.hm_scope_imports.specs.Selections.{IsSelectedAs}
use Rattle.hm_scope_tables.specs.declared.keys.Key.{Key}
use Rattle.hm_names.proofs.AddedPairs.{ForEach}
use Rattle.hm_scope_imports.proofs.imports.add_listed.Given as goal

abbrev pub invariant-loop-name : goal.invariant-loop-name
invariant-loop-name l = Adds l.initial.pairs.items l.pairs.items (ForEach (λ (k : Key) p. IsSelectedAs l.interface l.brought.selection.now l.brought.qualified l.brought.name.now k.space k.text.now p) (take l.name-index l.names))
