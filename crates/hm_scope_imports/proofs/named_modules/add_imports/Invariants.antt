use Rattle.std.proofs.Common.{◌≡◌, ℕ, List, take}
use Rattle.hm_syntax.specs.declared.ast.Import.{Import}
use Rattle.hm_names.specs.Bindings.{Adds}
use Rattle.hm_names.specs.Scope.{known_as}
use Rattle.hm_names.proofs.AddedPairs.{ForEach}
use Rattle.hm_scope_imports.proofs.named_modules.add_imports.Given as goal

abbrev pub invariant-loop-import : goal.invariant-loop-import
invariant-loop-import l = Adds l.initial.names l.names (ForEach (λ (i : Import) (x : List ℕ). known_as i ≡ x) (take l.import-index l.imports))
