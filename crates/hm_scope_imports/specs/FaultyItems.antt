-- Faults of one item of an import list. No public clause names these.
use Rattle.std.specs.Prelude.{List, Contains}
use Rattle.hm_types.specs.declared.Entity.{Entity}
use Rattle.hm_types.specs.Interfaces.{Exports as Interface}
use Rattle.hm_syntax.specs.Names.{Identifier}
use Rattle.hm_syntax.specs.declared.ast.ImportItem.{ImportItem}
use Rattle.hm_syntax.specs.declared.ast.ImportItem.TheVariants as item
use Rattle.hm_syntax.specs.declared.ast.ImportList.{ImportList}
use Rattle.hm_syntax.specs.declared.ast.ImportList.TheVariants as list
use Rattle.hm_syntax.specs.declared.ast.SubItems.{SubItems}
use Rattle.hm_syntax.specs.declared.ast.SubItems.TheVariants as subs
use Rattle.hm_names.specs.declared.namespace.Namespace.TheVariants.{Types, Values}
use Rattle.hm_names.specs.Entities.{Exports, Belongs}

-- the item lists at k a name that f doesn't export
pub data IsItemFault (f : Interface) (k : Identifier) : ImportItem → Type 0 where
  a_value : ((e : Entity) → ¬ Exports f k.text e Values) → IsItemFault f k (item.Var k)
  a_type : {s : SubItems} → ((e : Entity) → ¬ Exports f k.text e Types) → IsItemFault f k (item.Con k s)
  a_constructor : {v : Identifier} {cs : List Identifier} {e : Entity} → Exports f v.text e Types → Contains cs k → ¬ Belongs f v.text k.text → IsItemFault f k (item.Con v (subs.Some cs))

-- an item of the list does that
pub data IsListFault (f : Interface) (k : Identifier) : ImportList → Type 0 where
  an_item : {is : List ImportItem} {j : ImportItem} → Contains is j → IsItemFault f k j → IsListFault f k (list.Only is)
