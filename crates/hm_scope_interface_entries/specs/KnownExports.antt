-- Descriptions of the entities that a core can export. No public clause names these.
use Rattle.std.specs.Prelude.{◌≡◌, ℕ, List, [], ◌∷◌, ◌++◌, map, option_map}
use Rattle.std.specs.Borrow.{Bor}
use Rattle.std.specs.declared.hash.FoldHasher.{FoldHasher}
use Rattle.std.specs.declared.hash.BuildHasherDefault.{BuildHasherDefault}
use Rattle.indexmap.specs.IndexMap.{IndexMap, get_by}
use Rattle.hm_types.specs.declared.Entity.{Entity}
use Rattle.hm_types.specs.declared.entries.ConstructorEntry.{ConstructorEntry}
use Rattle.hm_types.specs.declared.entries.ValueEntry.{ValueEntry}
use Rattle.hm_types.specs.Interfaces.{Exports as Interface}
use Rattle.hm_types.specs.Schemes.{TypeScheme}
use Rattle.hm_syntax.specs.Names.{Identifier}
use Rattle.hm_syntax.specs.Trees.{DataConstructor, data_constructor, Declaration, data_declaration, newtype_declaration, synonym_declaration, signature, clause, pattern_binding}
use Rattle.hm_scope_tables.specs.declared.keys.EntityKey.{EntityKey}
use Rattle.hm_scope_interface_entries.specs.declared.known_exports.KnownType.{KnownType}
use Rattle.hm_scope_interface_entries.specs.declared.known_exports.KnownType.TheVariants.{Algebraic, Declared, Imported}
use Rattle.hm_scope_interface_entries.specs.declared.known_exports.KnownConstructor.{KnownConstructor}
use Rattle.hm_scope_interface_entries.specs.declared.known_exports.KnownConstructor.TheVariants as constructor
use Rattle.hm_names.specs.DeclaredSchemes.{ConstructorFact, fact_in}
use Rattle.hm_names.specs.Described.{first_of, TypeMeaning, algebraic, declared_synonym, imported_synonym, TypeDescription}
use Rattle.hm_names.specs.Entities.{constructor_list, named}
use Rattle.hm_scope_tables.specs.KnownTables.{entity_at}
use Rattle.hm_scope_entities.specs.Owners.{same_key}

abbrev pub Table : Type 0 → Type 0
Table V = IndexMap EntityKey V (BuildHasherDefault FoldHasher)

-- the table has for each entity its first description
abbrev pub IsFirst : {D V R : Type 0} → (D → Entity) → (D → R) → (V → R) → List D → Table V → Type 0
IsFirst of told seen ds table = (k : EntityKey) → option_map seen (get_by (same_key k) table) ≡ option_map told (first_of of (entity_at k) ds)

abbrev pub meaning_of : KnownType → TypeMeaning
meaning_of (Algebraic k) = algebraic k
meaning_of (Declared ps t) = declared_synonym ps.now t.now
meaning_of (Imported s) = imported_synonym s.now

abbrev pub KnowsTypes : List TypeDescription → Table KnownType → Type 0
KnowsTypes ds table = IsFirst (λ d. d.entity) (λ d. d.meaning) meaning_of ds table

-- the source of a constructor: a declaration, with the name of its type and its parameters, or an entry
pub data ConstructorSource : Type 0 where
  declared : Identifier → List Identifier → DataConstructor → ConstructorSource
  imported : ConstructorEntry → ConstructorSource

abbrev pub constructor_entity : List ℕ → DataConstructor → Entity
constructor_entity m (data_constructor n ts) = named m n.text

abbrev pub source_entity : List ℕ → ConstructorSource → Entity
source_entity m (declared t ps c) = constructor_entity m c
source_entity m (imported r) = r.entity

abbrev pub fact : List ℕ → ConstructorSource → ConstructorFact
fact m (declared t ps c) = fact_in m t ps c
fact m (imported r) = record { entity = r.entity; owner = r.owner; arguments = r.arguments; scheme = r.scheme }

abbrev pub declared_sources : List Declaration → List ConstructorSource
declared_sources [] = []
declared_sources (data_declaration n ps cs ∷ ds) = map (declared n ps) (constructor_list cs) ++ declared_sources ds
declared_sources (newtype_declaration n ps c ∷ ds) = declared n ps c ∷ declared_sources ds
declared_sources (synonym_declaration n ps t ∷ ds) = declared_sources ds
declared_sources (signature ns t ∷ ds) = declared_sources ds
declared_sources (clause n ps r ∷ ds) = declared_sources ds
declared_sources (pattern_binding line column p r ∷ ds) = declared_sources ds

abbrev pub imported_sources : List Interface → List ConstructorSource
imported_sources [] = []
imported_sources (f ∷ fs) = map imported f.constructors ++ imported_sources fs

abbrev pub source_of : KnownConstructor → ConstructorSource
source_of (constructor.Declared t ps c) = declared t.now ps.now c.now
source_of (constructor.Imported r) = imported r.now

abbrev pub KnowsConstructors : List ℕ → List ConstructorSource → Table KnownConstructor → Type 0
KnowsConstructors m ds table = IsFirst (source_entity m) (λ d. d) source_of ds table

abbrev pub KnowsValues : List ValueEntry → Table (Bor ValueEntry) → Type 0
KnowsValues ds table = IsFirst (λ d. d.entity) (λ d. d) (λ v. v.now) ds table
