use Rattle.std.proofs.Common.{take}
use Rattle.hm_names.specs.Bindings.{Adds, IsPairOf}
use Rattle.hm_scope_imports.specs.Selections.{Selects}
use Rattle.hm_names.proofs.AddedPairs.{ForEach}
use Rattle.hm_scope_imports.proofs.imports.add_entries.Given as goal

abbrev pub invariant-loop-entry : goal.invariant-loop-entry
invariant-loop-entry g l = Adds l.initial.pairs.items l.pairs.items (ForEach (λ r p. Selects l.brought.selection.now l.space (g.E.Named.name_of r) × IsPairOf l.brought.qualified l.brought.name.now l.space (g.E.Named.name_of r) (g.E.Named.entity_of r) p) (take l.entry-index l.entries))
