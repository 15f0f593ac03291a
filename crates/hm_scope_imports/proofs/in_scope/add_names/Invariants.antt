use Rattle.std.proofs.Common.{take, false, Bor}
use Rattle.hm_syntax.specs.Names.{Identifier}
use Rattle.hm_names.specs.Bindings.{Adds, IsPairOf}
use Rattle.hm_names.specs.Entities.{named}
use Rattle.hm_names.specs.declared.namespace.Namespace.TheVariants.{Values}
use Rattle.hm_names.proofs.AddedPairs.{ForEach}
use Rattle.hm_scope_imports.proofs.in_scope.add_names.Given as goal

abbrev pub invariant-loop-name : goal.invariant-loop-name
invariant-loop-name l = Adds l.initial.pairs.items l.pairs.items (ForEach (λ (n : Bor Identifier). IsPairOf false l.module_name Values n.now.text (named l.module_name n.now.text)) (take l.name-index l.names))
