-- The table of a scope. No public clause names these.
use Rattle.std.specs.Prelude.{◌≡◌, List, Option, Some, None, Contains, Bool, ◌&&◌, option_map}
use Rattle.std.specs.Str.{bytes_eq}
use Rattle.std.specs.Option.{option_eq}
use Rattle.std.specs.declared.hash.FoldHasher.{FoldHasher}
use Rattle.std.specs.declared.hash.BuildHasherDefault.{BuildHasherDefault}
use Rattle.indexmap.specs.IndexMap.{IndexMap, get_by}
use denote.Enum.Bare.{sameb}
use Rattle.hm_names.specs.contracts.namespace.Namespace.{the_type}
use Rattle.hm_scope_tables.specs.declared.keys.Key.{Key}
use Rattle.hm_scope_tables.specs.declared.table.Slot.{Slot}
use Rattle.hm_scope_tables.specs.declared.table.Slot.TheVariants.{One, Several}
use Rattle.hm_types.specs.declared.Entity.{Entity}
use Rattle.hm_names.specs.Bindings.{Pair}

-- the pair has this name
pub record IsNamed (k : Key) (p : Pair) : Type 0 where
  pub space : p.space ≡ k.space
  pub qualifier : p.qualifier ≡ option_map (λ q. q.now) k.qualifier
  pub text : p.text ≡ k.text.now

-- the result of `==` for two names
abbrev pub same_key : Key → Key → Bool
same_key j k = sameb the_type j.space k.space && (option_eq (λ a b. bytes_eq a.now b.now) j.qualifier k.qualifier && bytes_eq j.text.now k.text.now)

-- there is a pair with the name, and all pairs with it have this entity
pub record AreOfOne (pairs : List Pair) (k : Key) (e : Entity) : Type 0 where
  pub member : (p : Pair) × (Contains pairs p × IsNamed k p)
  pub all : (p : Pair) → Contains pairs p → IsNamed k p → p.entity ≡ e

-- two pairs with the name have different entities
pub record AreOfSeveral (pairs : List Pair) (k : Key) : Type 0 where
  pub one : Pair
  pub other : Pair
  pub has_one : Contains pairs one
  pub has_other : Contains pairs other
  pub one_named : IsNamed k one
  pub other_named : IsNamed k other
  pub differ : ¬ (one.entity ≡ other.entity)

-- the slot is the meaning that these pairs give to a name
abbrev pub Tells : List Pair → Key → Slot → Type 0
Tells pairs k (One e) = AreOfOne pairs k e
Tells pairs k Several = AreOfSeveral pairs k

abbrev pub IsTold : List Pair → Key → Option Slot → Type 0
IsTold pairs k None = (p : Pair) → Contains pairs p → ¬ IsNamed k p
IsTold pairs k (Some s) = Tells pairs k s

abbrev pub Table : Type 0
Table = IndexMap Key Slot (BuildHasherDefault FoldHasher)

-- the table has the meaning that the pairs give to each name
abbrev pub IsTable : List Pair → Table → Type 0
IsTable pairs table = (k : Key) → IsTold pairs k (get_by (same_key k) table)
