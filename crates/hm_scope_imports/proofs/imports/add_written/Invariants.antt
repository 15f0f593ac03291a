use Rattle.std.proofs.Common.{take, map}
use Rattle.hm_syntax.specs.declared.ast.Import.{Import}
use Rattle.hm_names.specs.Bindings.{Adds}
use Rattle.hm_scope_imports.specs.Selections.{IsBroughtFrom}
use Rattle.hm_names.proofs.AddedPairs.{ForEach}
use Rattle.hm_scope_imports.proofs.imports.add_written.Given as goal

abbrev pub invariant-loop-import : goal.invariant-loop-import
invariant-loop-import l = Adds l.initial.pairs.items l.pairs.items (ForEach (λ (i : Import) p. IsBroughtFrom (map (λ f. f.now) l.interfaces) i p) (take l.import-index l.imports))
