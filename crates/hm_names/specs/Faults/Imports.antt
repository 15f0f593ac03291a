-- Faults of import lists: a listed name isn't exported (Report 5.3.1).
use Rattle.std.specs.Prelude.{◌≡◌, List, Contains}
use Rattle.hm_types.specs.declared.Entity.{Entity}
use Rattle.hm_types.specs.Interfaces.{Exports as Interface}
use Rattle.hm_syntax.specs.Names.{Identifier}
use Rattle.hm_syntax.specs.declared.ast.Module.{Module}
use Rattle.hm_syntax.specs.declared.ast.Import.{Import}
use Rattle.hm_syntax.specs.declared.ast.ImportItem.{ImportItem}
use Rattle.hm_syntax.specs.declared.ast.ImportItem.TheVariants as item
use Rattle.hm_syntax.specs.declared.ast.ImportList.TheVariants as list
use Rattle.hm_syntax.specs.declared.ast.SubItems.{SubItems}
use Rattle.hm_syntax.specs.declared.ast.SubItems.TheVariants as subs
use Rattle.hm_names.specs.declared.namespace.Namespace.TheVariants.{Types, Values}
use Rattle.hm_names.specs.declared.faults.Kind.{Kind}
use Rattle.hm_names.specs.declared.faults.Kind.TheVariants.{NotExported}
use Rattle.hm_names.specs.Entities.{Exports, Belongs}
use Rattle.hm_names.specs.Scope.{Imports}

-- an import of f's module has a list with the item j
pub data ListsItem (m : Module) (fs : List Interface) (f : Interface) (j : ImportItem) : Type 0 where
  lists : {i : Import} {is : List ImportItem} → Imports m i → Contains fs f → f.name ≡ i.name.text → i.list ≡ list.Only is → Contains is j → ListsItem m fs f j

-- a listed variable or type isn't exported; a constructor after an exported type isn't an exported constructor of it
pub data ImportFault (m : Module) (fs : List Interface) : Kind → Identifier → Type 0 where
  a_value : {f : Interface} {n : Identifier} → ListsItem m fs f (item.Var n) → ((e : Entity) → ¬ (Exports f n.text e Values)) → ImportFault m fs NotExported n
  a_type : {f : Interface} {n : Identifier} {s : SubItems} → ListsItem m fs f (item.Con n s) → ((e : Entity) → ¬ (Exports f n.text e Types)) → ImportFault m fs NotExported n
  a_constructor : {f : Interface} {n c : Identifier} {cs : List Identifier} {e : Entity} →
      ListsItem m fs f (item.Con n (subs.Some cs)) → Exports f n.text e Types → Contains cs c → ¬ (Belongs f n.text c.text) → ImportFault m fs NotExported c
