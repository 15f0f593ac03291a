-- The names of the items of an import list. No public clause names these.
use Rattle.std.specs.Prelude.{◌≡◌, ℕ, List, Contains, None, Some}
use Rattle.hm_types.specs.declared.Entity.{Entity}
use Rattle.hm_types.specs.declared.entries.TypeEntry.{TypeEntry}
use Rattle.hm_types.specs.declared.entries.ConstructorEntry.{ConstructorEntry}
use Rattle.hm_types.specs.Interfaces.{Exports as Interface}
use Rattle.hm_syntax.specs.Names.{Identifier}
use Rattle.hm_syntax.specs.declared.ast.ImportItem.{ImportItem}
use Rattle.hm_syntax.specs.declared.ast.ImportItem.TheVariants as item
use Rattle.hm_syntax.specs.declared.ast.SubItems.{SubItems}
use Rattle.hm_syntax.specs.declared.ast.SubItems.TheVariants as subs
use Rattle.hm_names.specs.declared.namespace.Namespace.{Namespace}
use Rattle.hm_names.specs.declared.namespace.Namespace.TheVariants.{Types, Constructors, Values}
use Rattle.hm_scope_imports.specs.declared.selections.ListUse.{ListUse}
use Rattle.hm_scope_imports.specs.declared.selections.ListUse.TheVariants.{Hides}
use Rattle.hm_scope_tables.specs.NameSets.{FullName}

abbrev pub bare : Namespace → List ℕ → FullName
bare s x = record { space = s; qualifier = None; text = x }

-- the name of a type, with its module as the qualifier
abbrev pub type_name : Entity → FullName
type_name e = record { space = Types; qualifier = Some e.«module»; text = e.name }

-- f exports a constructor of the type under the name x
abbrev pub IsOwned : Interface → Entity → List ℕ → Type 0
IsOwned f owner x = (k : ConstructorEntry) × (Contains f.constructors k × ((k.name ≡ x) × (k.owner ≡ owner)))

-- n is a name that an item has besides its type v: a constructor of its list. After `hiding`, an item without a list has a constructor with the type's name
pub data IsBehind (list_use : ListUse) (f : Interface) (v : Identifier) (n : FullName) : SubItems → Type 0 where
  alone : list_use ≡ Hides → n ≡ bare Constructors v.text → IsBehind list_use f v n subs.None
  a_part : {c : Identifier} {cs : List Identifier} {r : TypeEntry} → Contains f.types r → r.name ≡ v.text → Contains cs c → IsOwned f r.entity c.text → n ≡ bare Constructors c.text → IsBehind list_use f v n (subs.Some cs)

-- n is a name of the item. The constructors of an item `T(..)` aren't among them
pub data IsNamedBy (list_use : ListUse) (f : Interface) (n : FullName) : ImportItem → Type 0 where
  a_value : {v : Identifier} → n ≡ bare Values v.text → IsNamedBy list_use f n (item.Var v)
  a_type : {v : Identifier} {s : SubItems} → n ≡ bare Types v.text → IsNamedBy list_use f n (item.Con v s)
  behind : {v : Identifier} {s : SubItems} → IsBehind list_use f v n s → IsNamedBy list_use f n (item.Con v s)

-- the item lists the type n with all its constructors
pub data IsOpenedBy (f : Interface) (n : FullName) : ImportItem → Type 0 where
  opened : {v : Identifier} {r : TypeEntry} → Contains f.types r → r.name ≡ v.text → n ≡ type_name r.entity → IsOpenedBy f n (item.Con v subs.All)
