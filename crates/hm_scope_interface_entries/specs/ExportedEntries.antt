-- Entries of an interface, export by export. No public clause names these.
use Rattle.std.specs.Prelude.{◌≡◌, ◌↔◌, ℕ, List, ◌++◌, map, Option, Some, Contains}
use Rattle.std.specs.Borrow.{Bor}
use Rattle.indexmap.specs.IndexMap.{get_by}
use Rattle.hm_types.specs.declared.Entity.{Entity}
use Rattle.hm_types.specs.declared.entries.TypeEntry.{TypeEntry}
use Rattle.hm_types.specs.declared.entries.SynonymEntry.{SynonymEntry}
use Rattle.hm_types.specs.declared.entries.ConstructorEntry.{ConstructorEntry}
use Rattle.hm_types.specs.declared.entries.ValueEntry.{ValueEntry}
use Rattle.hm_types.specs.Interfaces.{AreOrdered}
use Rattle.hm_types.specs.Schemes.{TypeScheme}
use Rattle.hm_syntax.specs.Names.{Identifier}
use Rattle.hm_syntax.specs.Trees.{TypeTree, DataConstructor}
use Rattle.hm_names.specs.declared.cores.Exported.{Exported}
use Rattle.hm_scope_tables.specs.declared.keys.EntityKey.{EntityKey}
use Rattle.hm_scope_interface_entries.specs.declared.entries.Values.{Values}
use Rattle.hm_scope_interface_entries.specs.declared.known_exports.KnownType.{KnownType}
use Rattle.hm_scope_interface_entries.specs.declared.known_exports.KnownType.TheVariants.{Declared}
use Rattle.hm_scope_interface_entries.specs.declared.known_exports.KnownConstructor.{KnownConstructor}
use Rattle.hm_scope_interface_entries.specs.declared.known_exports.KnownConstructor.TheVariants as constructor
use Rattle.hm_names.specs.Cores.{IsTop, HasArity, HasSynonym, IsDescribed, HasScheme, imported_values}
use Rattle.hm_names.specs.Described.{declared_types, imported_types}
use Rattle.hm_names.specs.Faults.Lists.{Repeats}
use Rattle.hm_scope_interface_entries.specs.KnownExports.{Table, KnowsTypes, KnowsConstructors, KnowsValues, declared_sources, imported_sources}
use Rattle.hm_names.specs.ModuleCores.{ModuleCore}
use Rattle.hm_scope_entities.specs.Owners.{same_key}
use Rattle.hm_names.specs.DeclaredSynonyms.{IsSound}

-- the entries are those of the exports for which H holds, in the order of their names
pub record AreEntries {R : Type 0} (name : R → List ℕ) (entity : R → Entity) (H : R → Type 0) (xs : List Exported) (rs : List R) : Type 0 where
  pub exact : (r : R) → Contains rs r ↔ (Contains xs (record { name = name r; entity = entity r }) × H r)
  pub ordered : AreOrdered (map name rs)

abbrev pub AreTypeEntries : ModuleCore → List Exported → List TypeEntry → Type 0
AreTypeEntries c xs rs = AreEntries (λ (r : TypeEntry). r.name) (λ r. r.entity) (λ r. HasArity c r.entity r.arity) xs rs

abbrev pub AreSynonymEntries : ModuleCore → List Exported → List SynonymEntry → Type 0
AreSynonymEntries c xs rs = AreEntries (λ (r : SynonymEntry). r.name) (λ r. r.entity) (λ r. HasSynonym c r.entity r.synonym) xs rs

abbrev pub AreConstructorEntries : ModuleCore → List Exported → List ConstructorEntry → Type 0
AreConstructorEntries c xs rs = AreEntries (λ (r : ConstructorEntry). r.name) (λ r. r.entity) (λ r. IsDescribed c r.entity r.owner r.arguments r.scheme) xs rs

abbrev pub AreValueEntries : ModuleCore → (List ℕ → Option TypeScheme) → List Exported → List ValueEntry → Type 0
AreValueEntries c given xs rs = AreEntries (λ (r : ValueEntry). r.name) (λ r. r.entity) (λ r. HasScheme c given r.entity r.scheme) xs rs

-- the tables have the descriptions of the core's entities
abbrev pub AreTypesOf : ModuleCore → Table KnownType → Type 0
AreTypesOf c table = KnowsTypes (declared_types c.name c.decls ++ imported_types c.interfaces) table

abbrev pub AreConstructorsOf : ModuleCore → Table KnownConstructor → Type 0
AreConstructorsOf c table = KnowsConstructors c.name (declared_sources c.decls ++ imported_sources c.interfaces) table

pub record AreValuesOf (c : ModuleCore) (v : Values) : Type 0 where
  pub home : v.home.now ≡ c.name
  pub top : (e : Entity) → IsTop c e ↔ ((e.«module» ≡ c.name) × Contains v.own e.name)
  pub imported : KnowsValues (imported_values c.interfaces) v.imported

-- the declared synonyms have distinct parameters, and no other variables
abbrev pub HasSoundSynonyms : Table KnownType → Type 0
HasSoundSynonyms table = (k : EntityKey) (ps : Bor (List Identifier)) (t : Bor TypeTree) → get_by (same_key k) table ≡ Some (Declared ps t) → IsSound ps.now t.now

-- the declared types have distinct parameters
abbrev pub HasDistinctParameters : Table KnownConstructor → Type 0
HasDistinctParameters table = (k : EntityKey) (t : Bor Identifier) (ps : Bor (List Identifier)) (c : Bor DataConstructor) → get_by (same_key k) table ≡ Some (constructor.Declared t ps c) → (n : Identifier) → ¬ (Repeats ps.now n)
