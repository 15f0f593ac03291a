-- Cores, which are modules with resolved names; their binding lists and assumptions; and their interfaces.
use Rattle.std.specs.Prelude.{◌≡◌, ℕ, Bool, false, cond, ◌||◌, List, [], ◌∷◌, ◌++◌, map, Option, None, Some, ◌↔◌, Contains}
use Rattle.hm_types.specs.declared.Entity.{Entity}
use Rattle.hm_types.specs.declared.entries.TypeEntry.{TypeEntry}
use Rattle.hm_types.specs.declared.entries.SynonymEntry.{SynonymEntry}
use Rattle.hm_types.specs.declared.entries.ConstructorEntry.{ConstructorEntry}
use Rattle.hm_types.specs.declared.entries.ValueEntry.{ValueEntry}
use Rattle.hm_types.specs.Interfaces.{Exports as Interface, AreOrdered}
use Rattle.hm_types.specs.Schemes.{TypeScheme}
use Rattle.hm_types.specs.StandardPrelude.{prelude_interface}
use Rattle.hm_types.specs.Synonyms.{TypeSynonym}
use Rattle.hm_typing.specs.Assumptions.{Assumptions, empty, bind}
use Rattle.hm_typing.specs.Names.{global, IsOneOf}
use Rattle.hm_typing.specs.Programs.{scheme_of}
use Rattle.hm_typing.specs.Syntax.{Bindings, names}
use Rattle.hm_syntax.specs.Names.{Identifier}
use Rattle.hm_syntax.specs.Trees.{unit_type, DataConstructor, data_constructor, Declaration, data_declaration, newtype_declaration, synonym_declaration, signature, clause, pattern_binding}
use Rattle.hm_syntax.specs.Lists.{declarations}
use Rattle.hm_syntax.specs.declared.ast.Module.{Module}
use Rattle.hm_names.specs.ModuleCores.{ModuleCore}
use Rattle.hm_names.specs.declared.cores.Exported.{Exported}
use Rattle.hm_names.specs.declared.namespace.Namespace.{Namespace}
use Rattle.hm_names.specs.declared.namespace.Namespace.TheVariants.{Types, Constructors, Values}
use Rattle.hm_names.specs.Entities.{constructor_list, named}
use Rattle.hm_names.specs.Exports.{IsExported}
use Rattle.hm_names.specs.Described.{first_of, TypeMeaning, algebraic, declared_synonym, imported_synonym, TypeDescription, type_meant, constructor_meant}
use Rattle.hm_names.specs.Faults.Phases.{IsWellFormed}
use Rattle.hm_names.specs.Imports.{AreImportsOf}
use Rattle.hm_names.specs.Resolved.{Resolver, IsResolver, resolved}
use Rattle.hm_names.specs.Special.{Special, special_of}
use Rattle.hm_names.specs.Syntax.{Known, bindings_of}
use Rattle.hm_names.specs.Texts.{same_entity}
use Rattle.hm_names.specs.Types.{entity_of, constructor_type_in, declared_scheme, special_type, synonym_of}

-- the exports of a core in a namespace
abbrev pub exports_in : ModuleCore → Namespace → List Exported
exports_in c Types = c.exported_types
exports_in c Constructors = c.exported_constructors
exports_in c Values = c.exported_values

-- a type constructor is among the exports
abbrev pub is_exported : List Exported → Entity → Bool
is_exported [] e = false
is_exported (r ∷ rs) e = same_entity e r.entity || is_exported rs e

-- a declaration in a core. A synonym that isn't exported has no right side there, because each type that names it has it expanded (Report 4.2.2)
abbrev pub kept : List Exported → Declaration → Declaration
kept es (data_declaration n ps cs) = data_declaration n ps cs
kept es (newtype_declaration n ps c) = newtype_declaration n ps c
kept es (synonym_declaration n ps t) = synonym_declaration n ps (cond (is_exported es (entity_of n)) t unit_type)
kept es (signature ns t) = signature ns t
kept es (clause n ps r) = clause n ps r
kept es (pattern_binding line column p r) = pattern_binding line column p r

-- the core of a well-formed module: its declarations with each name resolved, and its exports, ordered by name, each once
pub record IsCore (m : Module) (fs : List Interface) (c : ModuleCore) : Type 0 where
  pub well_formed : IsWellFormed m fs
  pub name : c.name ≡ m.header.name.text
  pub interfaces : c.interfaces ≡ fs
  pub resolver : Resolver
  pub resolves : IsResolver m fs resolver
  pub trees : c.decls ≡ map (kept c.exported_types) (resolved m resolver)
  pub exports : (s : Namespace) (x : List ℕ) (e : Entity) → Contains (exports_in c s) (record { name = x; entity = e }) ↔ IsExported m fs s x e
  pub ordered : (s : Namespace) → AreOrdered (map (λ r. r.name) (exports_in c s))

-- the core of some module for the interfaces of its imports
pub record IsSomeCore (c : ModuleCore) : Type 0 where
  pub module_of : Module
  pub imports : List Interface
  pub are_imports : AreImportsOf module_of imports
  pub is_core : IsCore module_of (prelude_interface ∷ imports) c

-- Schemes of constructors: the declared one if the core's module defines the constructor, else that of the first interface that has it

pub record ConstructorScheme : Type 0 where
  pub entity : Entity
  pub scheme : TypeScheme

abbrev pub scheme_in : List ℕ → Identifier → List Identifier → DataConstructor → ConstructorScheme
scheme_in m t ps (data_constructor n ts) = record { entity = named m n.text; scheme = declared_scheme (constructor_type_in (named m t.text) ps ts) }

abbrev pub declared_schemes : List ℕ → List Declaration → List ConstructorScheme
declared_schemes m [] = []
declared_schemes m (data_declaration n ps cs ∷ ds) = map (scheme_in m n ps) (constructor_list cs) ++ declared_schemes m ds
declared_schemes m (newtype_declaration n ps c ∷ ds) = scheme_in m n ps c ∷ declared_schemes m ds
declared_schemes m (synonym_declaration n ps t ∷ ds) = declared_schemes m ds
declared_schemes m (signature ns t ∷ ds) = declared_schemes m ds
declared_schemes m (clause n ps r ∷ ds) = declared_schemes m ds
declared_schemes m (pattern_binding line column p r ∷ ds) = declared_schemes m ds

abbrev pub imported_schemes : List Interface → List ConstructorScheme
imported_schemes [] = []
imported_schemes (f ∷ fs) = map (λ r. record { entity = r.entity; scheme = r.scheme }) f.constructors ++ imported_schemes fs

abbrev pub constructor_scheme : List ℕ → List Declaration → List Interface → Entity → Option ConstructorScheme
constructor_scheme m ds fs e = first_of (λ d. d.entity) e (declared_schemes m ds ++ imported_schemes fs)

-- the scheme of a resolved name. Each constructor of a core has one
abbrev pub scheme_or : Option Special → Option ConstructorScheme → TypeScheme
scheme_or (Some s) d = declared_scheme (special_type s)
scheme_or None (Some d) = d.scheme
scheme_or None None = declared_scheme (special_type Rattle.hm_names.specs.Special.UnitValue)

-- the constructors of a module with resolved declarations, as inference reads them
abbrev pub known_in : List ℕ → List Declaration → List Interface → Known
known_in m ds fs = record { home = m; scheme = λ n. scheme_or (special_of n) (constructor_scheme m ds fs (entity_of n)) }

abbrev pub known : ModuleCore → Known
known c = known_in c.name c.decls c.interfaces

-- The input of inference: the declarations of a core as a binding list, and the schemes of the variables that its interfaces export

abbrev pub syntax_of : ModuleCore → Bindings
syntax_of c = bindings_of (known c) (declarations c.decls) (declarations c.decls)

-- the binding list of a module under a resolver
abbrev pub elaborated : Module → List Interface → Resolver → Bindings
elaborated m fs r = bindings_of (known_in m.header.name.text (resolved m r) fs) (declarations (resolved m r)) (declarations (resolved m r))

abbrev pub imported_values : List Interface → List ValueEntry
imported_values [] = []
imported_values (f ∷ fs) = f.values ++ imported_values fs

-- if an entity has several entries, the first counts
abbrev pub assumed : List ValueEntry → Assumptions
assumed [] = empty
assumed (r ∷ rs) = bind (global r.entity) (scheme_of r.scheme) (assumed rs)

abbrev pub assumptions : ModuleCore → Assumptions
assumptions c = assumed (imported_values c.interfaces)

-- The interface of a core with given schemes for its variables

-- a top-level variable of the core
abbrev pub IsTop : ModuleCore → Entity → Type 0
IsTop c e = IsOneOf (global e) (names (syntax_of c))

-- the synonym with a resolved right side
abbrev pub synonym_in : TypeMeaning → Option TypeSynonym
synonym_in (algebraic k) = None
synonym_in (declared_synonym ps t) = Some (synonym_of ps t)
synonym_in (imported_synonym s) = Some s

-- the type constructor e is a data type or newtype with k parameters
pub record HasArity (c : ModuleCore) (e : Entity) (k : ℕ) : Type 0 where
  pub description : TypeDescription
  pub is : type_meant c.name c.decls c.interfaces e ≡ Some description
  pub arity : description.meaning ≡ algebraic k

-- the type constructor e is the synonym s
pub record HasSynonym (c : ModuleCore) (e : Entity) (s : TypeSynonym) : Type 0 where
  pub description : TypeDescription
  pub is : type_meant c.name c.decls c.interfaces e ≡ Some description
  pub synonym : synonym_in description.meaning ≡ Some s

-- the constructor e belongs to the type t, and has k arguments and the scheme s
pub record IsDescribed (c : ModuleCore) (e t : Entity) (k : ℕ) (s : TypeScheme) : Type 0 where
  pub description : constructor_meant c.name c.decls c.interfaces e ≡ Some (record { entity = e; owner = t; arguments = k })
  pub scheme : constructor_scheme c.name c.decls c.interfaces e ≡ Some (record { entity = e; scheme = s })

-- the variable e has the scheme s: a given one if it is the core's own, else that of its first entry
pub data HasScheme (c : ModuleCore) (given : List ℕ → Option TypeScheme) (e : Entity) (s : TypeScheme) : Type 0 where
  own : IsTop c e → given e.name ≡ Some s → HasScheme c given e s
  other : {r : ValueEntry} → ¬ (IsTop c e) → first_of (λ v. v.entity) e (imported_values c.interfaces) ≡ Some r → s ≡ r.scheme → HasScheme c given e s

-- each entry is of an export, and each export has its entry. Names in an interface are ordered and distinct, so it has no other entries
pub record IsInterfaceOf (c : ModuleCore) (given : List ℕ → Option TypeScheme) (f : Interface) : Type 0 where
  pub name : f.name ≡ c.name
  pub types : (r : TypeEntry) → Contains f.types r ↔ (Contains c.exported_types (record { name = r.name; entity = r.entity }) × HasArity c r.entity r.arity)
  pub synonyms : (r : SynonymEntry) → Contains f.synonyms r ↔ (Contains c.exported_types (record { name = r.name; entity = r.entity }) × HasSynonym c r.entity r.synonym)
  pub constructors : (r : ConstructorEntry) → Contains f.constructors r ↔ (Contains c.exported_constructors (record { name = r.name; entity = r.entity }) × IsDescribed c r.entity r.owner r.arguments r.scheme)
  pub values : (r : ValueEntry) → Contains f.values r ↔ (Contains c.exported_values (record { name = r.name; entity = r.entity }) × HasScheme c given r.entity r.scheme)
