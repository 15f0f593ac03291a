use Rattle.std.proofs.Common.{take}
use Rattle.hm_syntax.specs.Trees.{Declaration}
use Rattle.hm_names.specs.Bindings.{Adds, IsDeclaredPair}
use Rattle.hm_names.proofs.AddedPairs.{ForEach}
use Rattle.hm_scope_imports.proofs.in_scope.add_declared.Given as goal

abbrev pub invariant-loop-decl : goal.invariant-loop-decl
invariant-loop-decl l = Adds l.initial.pairs.items l.pairs.items (ForEach (λ (d : Declaration). IsDeclaredPair l.program.header.name.text d) (take l.decl-index l.program.decls))
