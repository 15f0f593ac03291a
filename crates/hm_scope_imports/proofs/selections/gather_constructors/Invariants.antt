use Rattle.std.proofs.Common.{◌≡◌, take, Contains}
use Rattle.hm_types.specs.declared.entries.ConstructorEntry.{ConstructorEntry}
use Rattle.hm_names.specs.Bindings.{Adds}
use Rattle.hm_scope_tables.specs.NameSets.{FullName}
use Rattle.hm_scope_imports.specs.Gathered.{bare, type_name}
use Rattle.hm_names.specs.declared.namespace.Namespace.TheVariants.{Constructors}
use Rattle.hm_names.proofs.AddedPairs.{ForEach}
use Rattle.hm_scope_imports.proofs.selections.gather_constructors.Given as goal

abbrev pub invariant-loop-constructor : goal.invariant-loop-constructor
invariant-loop-constructor l = Adds l.fn.names l.names (ForEach (λ (k : ConstructorEntry) (n : FullName). Contains l.opened (type_name k.owner) × (n ≡ bare Constructors k.name)) (take l.constructor-index l.constructors))
