-- The laws of the crate, as statements.
use Rattle.std.specs.Prelude.{◌≡◌, ℕ, List, [], ◌++◌, Option, Some, ◌↔◌, ◌⊎◌, Contains}
use Rattle.hm_types.specs.declared.Entity.{Entity}
use Rattle.hm_types.specs.declared.entries.ValueEntry.{ValueEntry}
use Rattle.hm_types.specs.Interfaces.{Exports as Interface, IsInterface}
use Rattle.hm_types.specs.Types.{put}
use Rattle.hm_types.specs.Schemes.{HasArities, HasNoRigid, TypeScheme}
use Rattle.hm_types.specs.Monotypes.{Mono}
use Rattle.hm_typing.specs.Assumptions.{Has, IsClosed}
use Rattle.hm_typing.specs.Names.{Identifier as Name, global, binding, IsOneOf, IsDistinct}
use Rattle.hm_typing.specs.Programs.{scheme_of, monotype_of}
use Rattle.hm_typing.specs.Schemes.{Monotype, IsInstance}
use Rattle.hm_typing.specs.Syntax.{names}
use Rattle.hm_syntax.specs.Names.{Identifier}
use Rattle.hm_syntax.specs.Trees.{TypeTrees}
use Rattle.hm_syntax.specs.declared.ast.Module.{Module}
use Rattle.hm_names.specs.ModuleCores.{ModuleCore}
use Rattle.hm_names.specs.declared.cores.Exported.{Exported}
use Rattle.hm_names.specs.declared.namespace.Namespace.TheVariants.{Values}
use Rattle.hm_syntax.specs.Lists.{declarations}
use Rattle.hm_names.specs.Variables.{texts, bound_names}
use Rattle.hm_names.specs.Entities.{Declares, own}
use Rattle.hm_names.specs.Exports.{IsExported}
use Rattle.hm_names.specs.declared.namespace.Namespace.{Namespace}
use Rattle.hm_names.specs.Scope.{IsUnbound, IsAmbiguous, Means}
use Rattle.hm_names.specs.Bindings.{Pair, IsScopeOf}
use Rattle.hm_names.specs.Described.{first_of, TypeDescription, type_meant}
use Rattle.hm_names.specs.Types.{type_in}
use Rattle.hm_names.specs.Expansion.{argument, filled_at}
use Rattle.hm_names.specs.Resolved.{Resolver, IsResolver, resolved, synonym_meant}
use Rattle.hm_names.specs.declared.faults.Fault.{Fault}
use Rattle.hm_names.specs.Walk.{Somewhere}
use Rattle.hm_names.specs.Found.{Lookups, list_faults, declarations_faults, resolver_of, synonym_among}
use Rattle.hm_names.specs.NodeFaults.{NodeFault, AreLookupsOf}
use Rattle.hm_names.specs.Faults.Phases.{IsWellFormed}
use Rattle.hm_names.specs.Cores.{IsCore, IsTop, IsInterfaceOf, syntax_of, elaborated, assumptions, imported_values}

-- The scope

-- each scope is a list
abbrev pub HasScope : Type 0
HasScope = (m : Module) (fs : List Interface) → (pairs : List Pair) × IsScopeOf m fs pairs

-- each name is unbound, ambiguous, or means one entity
abbrev pub HasMeaning : Type 0
HasMeaning = (m : Module) (fs : List Interface) (s : Namespace) (n : Identifier) → IsUnbound m fs s n ⊎ (IsAmbiguous m fs s n ⊎ ((e : Entity) × Means m fs s n e))

-- One meaning

-- a well-formed module has one resolution
abbrev pub HasOneResolution : Type 0
HasOneResolution = (m : Module) (fs : List Interface) (r s : Resolver) → IsWellFormed m fs → IsResolver m fs r → IsResolver m fs s → resolved m r ≡ resolved m s

-- a well-formed module has a resolution
abbrev pub HasResolver : Type 0
HasResolver = (m : Module) (fs : List Interface) → IsWellFormed m fs → (r : Resolver) × IsResolver m fs r

-- the binding list of a module's core is the module's, under any resolver
abbrev pub IsElaborated : Type 0
IsElaborated = (m : Module) (fs : List Interface) (c : ModuleCore) (r : Resolver) → IsCore m fs c → IsResolver m fs r → syntax_of c ≡ elaborated m fs r

-- an exported type means in a core's declarations what it means in the module's
abbrev pub KeepsExports : Type 0
KeepsExports = (m : Module) (fs : List Interface) (c : ModuleCore) (r : Resolver) → IsCore m fs c → IsResolver m fs r → (x : Exported) → Contains c.exported_types x →
    type_meant c.name c.decls c.interfaces x.entity ≡ type_meant c.name (resolved m r) c.interfaces x.entity

-- two cores of one module have the same binding list and the same assumptions
abbrev pub HasOneSyntax : Type 0
HasOneSyntax = (m : Module) (fs : List Interface) (c d : ModuleCore) → IsCore m fs c → IsCore m fs d → (syntax_of c ≡ syntax_of d) × (assumptions c ≡ assumptions d)

-- a module has one core, and a core has one interface for given schemes
abbrev pub HasOneCore : Type 0
HasOneCore = (m : Module) (fs : List Interface) (c d : ModuleCore) → IsCore m fs c → IsCore m fs d → c ≡ d

abbrev pub HasOneInterface : Type 0
HasOneInterface = (c : ModuleCore) (given : List ℕ → Option TypeScheme) (f g : Interface) → IsInterface f → IsInterface g → IsInterfaceOf c given f → IsInterfaceOf c given g → f ≡ g

-- The names of a core's binding list

-- no name is bound twice
abbrev pub BindsDistinct : Type 0
BindsDistinct = (m : Module) (fs : List Interface) (c : ModuleCore) → IsCore m fs c → IsDistinct (names (syntax_of c))

-- each name is a variable or a pattern binding of the module
abbrev pub IsOwn : Module → Name → Type 0
IsOwn m x = ((y : List ℕ) × (x ≡ global (own m y))) ⊎ ((k : ℕ) × (x ≡ binding m.header.name.text k))

abbrev pub BindsOwn : Type 0
BindsOwn = (m : Module) (fs : List Interface) (c : ModuleCore) → IsCore m fs c → (x : Name) → IsOneOf x (names (syntax_of c)) → IsOwn m x

-- all variables that the module declares are bound
abbrev pub BindsDeclared : Type 0
BindsDeclared = (m : Module) (fs : List Interface) (c : ModuleCore) → IsCore m fs c → (x : List ℕ) → Declares m x Values → IsOneOf (global (own m x)) (names (syntax_of c))

-- a top-level variable is an entity of the core's module that its declarations bind
abbrev pub TopIsBound : Type 0
TopIsBound = (m : Module) (fs : List Interface) (c : ModuleCore) → IsCore m fs c → (e : Entity) → IsTop c e ↔ ((e.«module» ≡ c.name) × IsOneOf e.name (texts (bound_names (declarations c.decls))))

-- an interface has an entry for the variable e
pub record IsImported (fs : List Interface) (e : Entity) : Type 0 where
  pub interface : Interface
  pub stands : Contains fs interface
  pub entry : ValueEntry
  pub has : Contains interface.values entry
  pub is : entry.entity ≡ e

-- an exported variable is the module's own, or is in an interface
abbrev pub ExportsOwnOrImported : Type 0
ExportsOwnOrImported = (m : Module) (fs : List Interface) (x : List ℕ) (e : Entity) → IsExported m fs Values x e → (Declares m x Values × (e ≡ own m x)) ⊎ IsImported fs e

-- Assumptions

-- the assumptions have no free type variable
abbrev pub AssumesClosed : Type 0
AssumesClosed = (c : ModuleCore) → IsClosed (assumptions c)

-- an imported variable has the instances of the scheme in its first entry
abbrev pub AssumesFirst : Type 0
AssumesFirst = (c : ModuleCore) (e : Entity) (t : Monotype) → Has (assumptions c) (global e) t ↔ ((r : ValueEntry) × ((first_of (λ v. v.entity) e (imported_values c.interfaces) ≡ Some r) × IsInstance t (scheme_of r.scheme)))

-- Expansion

-- a synonym stands for its right side with the types of the arguments in place of the parameters
abbrev pub ExpansionSubstitutes : Type 0
ExpansionSubstitutes =
    (vs : List (List ℕ)) (n : Identifier) (ts : TypeTrees) (b : Mono) → HasNoRigid b → HasArities b → type_in vs (filled_at n ts b) ≡ put (λ i. type_in vs (argument i ts)) (monotype_of b)

-- The walk

-- the faults that the walk finds in a module's declarations are the faults in the module
abbrev pub NotedStands : Type 0
NotedStands = (m : Module) (fs : List Interface) (k : Lookups) → AreLookupsOf m fs k → (f : Fault) →
    Contains (list_faults (declarations m.decls) ++ declarations_faults k [] (declarations m.decls)) f ↔ Somewhere m (NodeFault m fs f)

-- the tables of a module give a resolver of it
abbrev pub LookupsResolve : Type 0
LookupsResolve = (m : Module) (fs : List Interface) (k : Lookups) → AreLookupsOf m fs k →
    ((e : Entity) (d : TypeDescription) → type_meant m.header.name.text m.decls fs e ≡ Some d → synonym_among k.synonyms e ≡ synonym_meant (resolver_of k) d.meaning) → IsResolver m fs (resolver_of k)
