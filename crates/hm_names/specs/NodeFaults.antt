-- The faults that the walk over trees finds: those of declaration lists, of names, and of numbers of arguments.
use Rattle.std.specs.Prelude.{◌≡◌, ◌⊎◌, List, [], Option, None, Some, ◌↔◌}
use Rattle.hm_types.specs.declared.Entity.{Entity}
use Rattle.hm_types.specs.Interfaces.{Exports as Interface}
use Rattle.hm_syntax.specs.Names.{Identifier}
use Rattle.hm_syntax.specs.declared.ast.Module.{Module}
use Rattle.hm_names.specs.declared.faults.Kind.{Kind}
use Rattle.hm_names.specs.declared.faults.Fault.{Fault}
use Rattle.hm_names.specs.Described.{TypeDescription, arity, type_meant, ConstructorDescription, constructor_meant}
use Rattle.hm_names.specs.Walk.{Locals, Node}
use Rattle.hm_names.specs.Faults.Lists.{ListFault}
use Rattle.hm_names.specs.Faults.Names.{NameFault}
use Rattle.hm_names.specs.Faults.Arities.{ArityFault}
use Rattle.hm_names.specs.Faults.Phases.{fault}
use Rattle.hm_names.specs.Bindings.{IsScopeOf}
use Rattle.hm_names.specs.Found.{Lookups, arity_among}

-- the node has this fault, by the rules of declaration lists, of names or of numbers of arguments
pub record NodeFault (m : Module) (fs : List Interface) (f : Fault) (xs : Locals) (node : Node) : Type 0 where
  pub kind : Kind
  pub name : Identifier
  pub stands : ListFault node kind name ⊎ (NameFault m fs xs node kind name ⊎ ArityFault m fs node kind name)
  pub is : f ≡ fault kind name

abbrev pub arity_of_type : Option TypeDescription → Option Rattle.std.specs.Prelude.ℕ
arity_of_type None = None
arity_of_type (Some d) = Some (arity d.meaning)

abbrev pub arity_of_constructor : Option ConstructorDescription → Option Rattle.std.specs.Prelude.ℕ
arity_of_constructor None = None
arity_of_constructor (Some d) = Some d.arguments

-- the tables are those of the module with its interfaces
pub record AreLookupsOf (m : Module) (fs : List Interface) (k : Lookups) : Type 0 where
  pub scope : IsScopeOf m fs k.pairs
  pub types : (e : Entity) → arity_among k.types e ≡ arity_of_type (type_meant m.header.name.text m.decls fs e)
  pub constructors : (e : Entity) → arity_among k.constructors e ≡ arity_of_constructor (constructor_meant m.header.name.text m.decls fs e)
