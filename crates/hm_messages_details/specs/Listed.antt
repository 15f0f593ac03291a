-- The import that lists a name (Report, section 5.3.1).
use Rattle.std.specs.Prelude.{◌≡◌, ℕ, List, Option, None, Some, Contains}
use Rattle.hm_syntax.specs.Names.{Identifier}
use Rattle.hm_syntax.specs.declared.ast.Module.{Module}
use Rattle.hm_syntax.specs.declared.ast.Import.{Import}
use Rattle.hm_syntax.specs.declared.ast.ImportItem.{ImportItem}
use Rattle.hm_syntax.specs.declared.ast.ImportItem.TheVariants as item
use Rattle.hm_syntax.specs.declared.ast.ImportList.{ImportList}
use Rattle.hm_syntax.specs.declared.ast.ImportList.TheVariants as list
use Rattle.hm_syntax.specs.declared.ast.SubItems.{SubItems}
use Rattle.hm_syntax.specs.declared.ast.SubItems.TheVariants as subs
use Rattle.hm_names.specs.declared.faults.Fault.{Fault}
use Rattle.hm_messages_details.specs.Firsts.{IsAt}

-- the item has the name of the fault, alone or after the type with this name
pub data IsListedAs (f : Fault) : ImportItem → Option (List ℕ) → Type 0 where
  a_value : {n : Identifier} → IsAt f n → IsListedAs f (item.Var n) None
  a_type : {n : Identifier} {s : SubItems} → IsAt f n → IsListedAs f (item.Con n s) None
  a_constructor : {n c : Identifier} {cs : List Identifier} → Contains cs c → IsAt f c → IsListedAs f (item.Con n (subs.Some cs)) (Some n.text)

-- one of the items of an import list without `hiding` has the name of the fault
pub record IsListedBy (f : Fault) (l : ImportList) (owner : Option (List ℕ)) : Type 0 where
  pub items : List ImportItem
  pub only : l ≡ list.Only items
  pub item : ImportItem
  pub among : Contains items item
  pub listed : IsListedAs f item owner

-- an import of the module x lists the name of the fault, alone or after a type
pub record IsListedFrom (m : Module) (f : Fault) (x : List ℕ) (owner : Option (List ℕ)) : Type 0 where
  pub import : Import
  pub written : Contains m.header.imports import
  pub name_is : import.name.text ≡ x
  pub by : IsListedBy f import.list owner
