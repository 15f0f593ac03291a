-- A table of the types of constructors. No public clause names it.
use Rattle.std.specs.Prelude.{◌≡◌, List, option_map, Bool, ◌&&◌}
use Rattle.std.specs.Str.{bytes_eq}
use Rattle.std.specs.declared.hash.FoldHasher.{FoldHasher}
use Rattle.std.specs.declared.hash.BuildHasherDefault.{BuildHasherDefault}
use Rattle.indexmap.specs.IndexMap.{IndexMap, get_by}
use Rattle.hm_types.specs.declared.Entity.{Entity}
use Rattle.hm_scope_tables.specs.declared.keys.EntityKey.{EntityKey}
use Rattle.hm_names.specs.Described.{ConstructorDescription, first_of}
use Rattle.hm_scope_tables.specs.KnownTables.{entity_at}

-- the result of `==` for two keys
abbrev pub same_key : EntityKey → EntityKey → Bool
same_key j k = bytes_eq j.«module».now k.«module».now && bytes_eq j.name.now k.name.now

-- the table has for each constructor the type of its first description
abbrev pub IsOwners : List ConstructorDescription → IndexMap EntityKey Entity (BuildHasherDefault FoldHasher) → Type 0
IsOwners ds owners = (k : EntityKey) → get_by (same_key k) owners ≡ option_map (λ d. d.owner) (first_of (λ d. d.entity) (entity_at k) ds)
