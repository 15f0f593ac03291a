-- The tables of types, synonyms and constructors. No public clause names these.
use Rattle.std.specs.Prelude.{◌≡◌, ℕ, cond, is_some, List, [], ◌∷◌, ◌++◌, Option, None, Some}
use Rattle.std.specs.Borrow.{Bor}
use Rattle.hm_types.specs.declared.Entity.{Entity}
use Rattle.hm_types.specs.Synonyms.{TypeSynonym}
use Rattle.hm_scope_tables.specs.declared.keys.EntityKey.{EntityKey}
use Rattle.hm_types.specs.Interfaces.{Exports as Interface}
use Rattle.hm_types.specs.declared.entries.TypeEntry.{TypeEntry}
use Rattle.hm_types.specs.declared.entries.SynonymEntry.{SynonymEntry}
use Rattle.hm_types.specs.declared.entries.ConstructorEntry.{ConstructorEntry}
use Rattle.hm_syntax.specs.declared.ast.Module.{Module}
use Rattle.hm_names.specs.Described.{first_of, TypeMeaning, algebraic, declared_synonym, imported_synonym, TypeDescription, declared_types, imported_types, ConstructorDescription, declared_constructors, imported_constructors}
use Rattle.hm_names.specs.NodeFaults.{arity_of_type, arity_of_constructor}
use Rattle.hm_names.specs.Found.{KnownSynonym, KnownArity, Lookups, lookups_in, arity_among, synonym_among}
use Rattle.hm_names.specs.Bindings.{Pair}

pub record KnownTables : Type 0 where
  pub synonyms : List KnownSynonym
  pub types : List KnownArity
  pub constructors : List KnownArity

abbrev pub entity_at : EntityKey → Entity
entity_at k = record { «module» = k.«module».now; name = k.name.now }

abbrev pub known_arity : EntityKey × ℕ → KnownArity
known_arity p = record { entity = entity_at p.0; arity = p.1 }

abbrev pub known_own : EntityKey × TypeSynonym → KnownSynonym
known_own p = record { entity = entity_at p.0; synonym = p.1 }

abbrev pub known_imported : EntityKey × Bor TypeSynonym → KnownSynonym
known_imported p = record { entity = entity_at p.0; synonym = p.1.now }

-- the list with one more number of arguments, unless the entity has one already
abbrev pub noted : List KnownArity → KnownArity → List KnownArity
noted ks k = cond (is_some (arity_among ks k.entity)) ks (ks ++ k ∷ [])

-- the descriptions of the entries of an interface
abbrev pub type_description : TypeEntry → TypeDescription
type_description r = record { entity = r.entity; meaning = algebraic r.arity }

abbrev pub synonym_description : SynonymEntry → TypeDescription
synonym_description r = record { entity = r.entity; meaning = imported_synonym r.synonym }

abbrev pub constructor_description : ConstructorEntry → ConstructorDescription
constructor_description r = record { entity = r.entity; owner = r.owner; arguments = r.arguments }

-- the described synonym, if it is from an interface
abbrev pub imported_in : TypeMeaning → Option TypeSynonym
imported_in (algebraic k) = None
imported_in (declared_synonym ps t) = None
imported_in (imported_synonym s) = Some s

abbrev pub imported_of : Option TypeDescription → Option TypeSynonym
imported_of None = None
imported_of (Some d) = imported_in d.meaning

-- for each entity, the tables have the facts of its first description
pub record KnowsTypes (described : List TypeDescription) (types : List KnownArity) (synonyms : List KnownSynonym) : Type 0 where
  pub arities : (e : Entity) → arity_among types e ≡ arity_of_type (first_of (λ d. d.entity) e described)
  pub imported : (e : Entity) → synonym_among synonyms e ≡ imported_of (first_of (λ d. d.entity) e described)

pub record KnowsConstructors (described : List ConstructorDescription) (constructors : List KnownArity) : Type 0 where
  pub arities : (e : Entity) → arity_among constructors e ≡ arity_of_constructor (first_of (λ d. d.entity) e described)

-- the tables of a module for these interfaces, without the module's own synonyms
pub record AreTablesOf (m : Module) (fs : List Interface) (tables : KnownTables) : Type 0 where
  pub types : KnowsTypes (declared_types m.header.name.text m.decls ++ imported_types fs) tables.types tables.synonyms
  pub constructors : KnowsConstructors (declared_constructors m.header.name.text m.decls ++ imported_constructors fs) tables.constructors

-- the look-ups of a walk with this scope and these tables
abbrev pub lookups_of : List Pair → KnownTables → Lookups
lookups_of pairs tables = lookups_in pairs tables.synonyms tables.types tables.constructors
