-- The scope of a module: a set of pairs of a name, bare or qualified, and an entity (Report 5.3, 5.5).
use Rattle.std.specs.Prelude.{◌≡◌, ℕ, List, false, Option, None, Some, ◌⊎◌, codes, Contains}
use Rattle.hm_types.specs.declared.Entity.{Entity}
use Rattle.hm_types.specs.Interfaces.{Exports as Interface}
use Rattle.hm_syntax.specs.Names.{Identifier}
use Rattle.hm_syntax.specs.declared.ast.Module.{Module}
use Rattle.hm_syntax.specs.declared.ast.Import.{Import}
use Rattle.hm_syntax.specs.declared.ast.ImportItem.{ImportItem}
use Rattle.hm_syntax.specs.declared.ast.ImportItem.TheVariants as item
use Rattle.hm_syntax.specs.declared.ast.ImportList.TheVariants as list
use Rattle.hm_syntax.specs.declared.ast.SubItems.{SubItems}
use Rattle.hm_syntax.specs.declared.ast.SubItems.TheVariants as subs
use Rattle.hm_names.specs.declared.namespace.Namespace.{Namespace}
use Rattle.hm_names.specs.declared.namespace.Namespace.TheVariants.{Types, Constructors, Values}
use Rattle.hm_names.specs.Entities.{Exports, Belongs, Declares, own}

-- Import lists (Report 5.3.1)

-- an item of an import list names x among the exports of f
pub data Lists (f : Interface) (x : List ℕ) : ImportItem → Namespace → Type 0 where
  a_value : {n : Identifier} → n.text ≡ x → Lists f x (item.Var n) Values
  a_type : {n : Identifier} {s : SubItems} → n.text ≡ x → Lists f x (item.Con n s) Types
  each_constructor : {n : Identifier} → Belongs f n.text x → Lists f x (item.Con n subs.All) Constructors
  a_constructor : {n c : Identifier} {cs : List Identifier} → Contains cs c → c.text ≡ x → Belongs f n.text x → Lists f x (item.Con n (subs.Some cs)) Constructors

-- after `hiding`, a name without a list also hides a constructor of that name, of any type
pub data Hides (f : Interface) (x : List ℕ) : ImportItem → Namespace → Type 0 where
  listed : {i : ImportItem} {s : Namespace} → Lists f x i s → Hides f x i s
  alone : {n : Identifier} → n.text ≡ x → Hides f x (item.Con n subs.None) Constructors

-- the import i of f's module brings in the name x for the entity e
pub data Brings (f : Interface) (i : Import) (s : Namespace) (x : List ℕ) (e : Entity) : Type 0 where
  every : i.list ≡ list.Every → Exports f x e s → Brings f i s x e
  only : {is : List ImportItem} {j : ImportItem} → i.list ≡ list.Only is → Contains is j → Lists f x j s → Exports f x e s → Brings f i s x e
  hiding : {is : List ImportItem} → i.list ≡ list.Hiding is → ((j : ImportItem) → Contains is j → ¬ (Hides f x j s)) → Exports f x e s → Brings f i s x e

-- Imports (Report 5.3, 5.6)

abbrev pub prelude_name : List ℕ
prelude_name = codes "Prelude"

-- import Prelude
abbrev pub import_prelude : Import
import_prelude = record { qualified = false; name = record { qualifier = None; text = prelude_name; line = 0; column = 0 }; alias = None; list = list.Every }

-- the imports of a module: the written ones, and that of Prelude, unless a written one names it
pub data Imports (m : Module) (i : Import) : Type 0 where
  written : Contains m.header.imports i → Imports m i
  added : ((j : Import) → Contains m.header.imports j → ¬ (j.name.text ≡ prelude_name)) → i ≡ import_prelude → Imports m i

abbrev pub alias_or : Option Identifier → Identifier → List ℕ
alias_or None n = n.text
alias_or (Some k) n = k.text

-- the name under which a module is imported
abbrev pub known_as : Import → List ℕ
known_as i = alias_or i.alias i.name

-- The scope

-- in the scope of the module m with the interfaces fs, which include Prelude's, the name x with the qualifier q, or bare, has the entity e
pub data InScope (m : Module) (fs : List Interface) (s : Namespace) (q : Option (List ℕ)) (x : List ℕ) (e : Entity) : Type 0 where
  declared : Declares m x s → (q ≡ None) ⊎ (q ≡ Some m.header.name.text) → e ≡ own m x → InScope m fs s q x e
  imported : {i : Import} {f : Interface} →
      Imports m i → Contains fs f → f.name ≡ i.name.text → Brings f i s x e → ((q ≡ None) × (i.qualified ≡ false)) ⊎ (q ≡ Some (known_as i)) → InScope m fs s q x e

-- The meaning of a name in the scope: no entity, two or more, or one (Report 5.5.2)

abbrev pub IsUnbound : Module → List Interface → Namespace → Identifier → Type 0
IsUnbound m fs s n = (e : Entity) → ¬ (InScope m fs s n.qualifier n.text e)

abbrev pub IsAmbiguous : Module → List Interface → Namespace → Identifier → Type 0
IsAmbiguous m fs s n = (d : Entity) × ((e : Entity) × (InScope m fs s n.qualifier n.text d × InScope m fs s n.qualifier n.text e × ¬ (d ≡ e)))

pub record Means (m : Module) (fs : List Interface) (s : Namespace) (n : Identifier) (e : Entity) : Type 0 where
  pub in_scope : InScope m fs s n.qualifier n.text e
  pub alone : (d : Entity) → InScope m fs s n.qualifier n.text d → d ≡ e
