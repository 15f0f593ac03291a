use Rattle.std.proofs.Common.{take, false}
use Rattle.hm_syntax.specs.Trees.{DataConstructor}
use Rattle.hm_names.specs.Bindings.{Adds, IsPairOf}
use Rattle.hm_names.specs.Entities.{named, constructor_name}
use Rattle.hm_names.specs.declared.namespace.Namespace.TheVariants.{Constructors}
use Rattle.hm_names.proofs.AddedPairs.{ForEach}
use Rattle.hm_scope_imports.proofs.in_scope.add_constructors.Given as goal

abbrev pub invariant-loop-constr : goal.invariant-loop-constr
invariant-loop-constr l = Adds l.initial.pairs.items l.pairs.items (ForEach (λ (c : DataConstructor). IsPairOf false l.module_name Constructors (constructor_name c).text (named l.module_name (constructor_name c).text)) (take l.constr-index l.constrs))
