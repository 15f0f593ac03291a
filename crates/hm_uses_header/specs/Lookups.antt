-- What the names of a header are looked up in. No public clause names these.
use Rattle.std.specs.Prelude.{◌≡◌, ◌↔◌, ℕ, Bool, true, false, List, Option, None, Some, option_map, Contains}
use Rattle.std.specs.Borrow.{Bor}
use Rattle.std.specs.Str.{bytes_eq}
use Rattle.std.specs.declared.hash.FoldHasher.{FoldHasher}
use Rattle.std.specs.declared.hash.BuildHasherDefault.{BuildHasherDefault}
use Rattle.indexmap.specs.IndexMap.{IndexMap, get_by}
use Rattle.hm_types.specs.Interfaces.{Exports as Interface}
use Rattle.hm_syntax.specs.Names.{Identifier}
use Rattle.hm_syntax.specs.declared.ast.Module.{Module}
use Rattle.hm_syntax.specs.declared.ast.Export.{Export}
use Rattle.hm_syntax.specs.declared.ast.Export.TheVariants as export
use Rattle.hm_syntax.specs.declared.ast.Import.{Import}
use Rattle.hm_syntax.specs.declared.ast.ImportItem.{ImportItem}
use Rattle.hm_syntax.specs.declared.ast.ImportList.TheVariants as list
use Rattle.hm_syntax.specs.declared.ast.SubItems.{SubItems}
use Rattle.hm_syntax.specs.declared.ast.SubItems.TheVariants as subs
use Rattle.hm_names.specs.Bindings.{IsScopeOf}
use Rattle.hm_names.specs.Exports.{IsModuleName}
use Rattle.hm_scope_export_items.specs.ExportGroups.{AreGroupsOf}
use Rattle.hm_uses.specs.Uses.{HasExport}
use Rattle.hm_uses_header.specs.declared.exports.ExportTables.{ExportTables}

-- the export list of the module names constructors of a type
abbrev pub NamesParts : Module → Type 0
NamesParts m = (n : Identifier) × ((cs : List Identifier) × HasExport m (export.Con n (subs.Some cs)))

-- the tables are those of the module, for these interfaces. The groups are needed for named constructors alone
pub record AreTablesOf (m : Module) (fs : List Interface) (tables : ExportTables) : Type 0 where
  pub scope : IsScopeOf m fs tables.scope.now
  pub modules : (x : List ℕ) → Contains tables.modules x ↔ IsModuleName m x
  pub groups : NamesParts m → AreGroupsOf m fs tables.groups

abbrev pub names_some : SubItems → Bool
names_some subs.None = false
names_some subs.All = false
names_some (subs.Some cs) = true

-- the item names constructors of a type
abbrev pub names_parts : Export → Bool
names_parts (export.Var n) = false
names_parts (export.Con n s) = names_some s
names_parts (export.Whole n) = false

-- f is one of these interfaces, and the only one with the name
pub record IsOnly (fs : List Interface) (x : List ℕ) (f : Interface) : Type 0 where
  pub stands : Contains fs f
  pub named : f.name ≡ x
  pub alone : (g : Interface) → Contains fs g → g.name ≡ x → g ≡ f

-- the interface with the name, if there is one
abbrev pub IsInterfaceOf : List Interface → List ℕ → Option Interface → Type 0
IsInterfaceOf fs x None = (f : Interface) → Contains fs f → ¬ (f.name ≡ x)
IsInterfaceOf fs x (Some f) = IsOnly fs x f

abbrev pub ByName : Type 0
ByName = IndexMap (Bor (List ℕ)) (Bor Interface) (BuildHasherDefault FoldHasher)

-- the interface that the table has for a name
abbrev pub interface_at : ByName → Bor (List ℕ) → Option Interface
interface_at table x = option_map (λ f. f.now) (get_by (λ k. bytes_eq x.now k.now) table)

-- the table has each of these interfaces under its name
abbrev pub IsTableOf : List Interface → ByName → Type 0
IsTableOf fs table = (x : Bor (List ℕ)) → IsInterfaceOf fs x.now (interface_at table x)

-- an import of the module for which P holds. This is the interface of its module
abbrev pub IsImported : Module → List Interface → Option Interface → (Import → Type 0) → Type 0
IsImported m fs f P = (i : Import) × (Contains m.header.imports i × (IsInterfaceOf fs i.name.text f × P i))

-- the import hides the item
abbrev pub HidesItem : Import → ImportItem → Type 0
HidesItem i j = (is : List ImportItem) × ((i.list ≡ list.Hiding is) × Contains is j)
