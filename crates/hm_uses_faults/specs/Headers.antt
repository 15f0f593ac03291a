-- Faults of the names of a header, and uses that say so (Report 5.2, 5.3.1).
use Rattle.std.specs.Prelude.{◌≡◌, List, ◌∷◌, ◌⊎◌, ◌↔◌, false, map, Contains}
use Rattle.hm_types.specs.declared.Entity.{Entity}
use Rattle.hm_types.specs.Interfaces.{Exports as Interface}
use Rattle.hm_syntax.specs.Names.{Identifier}
use Rattle.hm_syntax.specs.declared.ast.Module.{Module}
use Rattle.hm_syntax.specs.declared.ast.Export.TheVariants as export
use Rattle.hm_syntax.specs.declared.ast.Import.{Import}
use Rattle.hm_syntax.specs.declared.ast.ImportItem.{ImportItem}
use Rattle.hm_syntax.specs.declared.ast.ImportItem.TheVariants as item
use Rattle.hm_syntax.specs.declared.ast.ImportList.TheVariants as list
use Rattle.hm_syntax.specs.declared.ast.SubItems.TheVariants as subs
use Rattle.hm_names.specs.declared.namespace.Namespace.TheVariants.{Types}
use Rattle.hm_names.specs.declared.faults.Kind.TheVariants.{Unbound, Ambiguous, NotExported, NotImported}
use Rattle.hm_names.specs.Faults.Phases.{FaultAt, Importing, Exporting}
use Rattle.hm_names.specs.Imports.{AreImportsOf}
use Rattle.hm_names.specs.Scope.{Means, prelude_name}
use Rattle.hm_uses.specs.declared.name_kind.NameKind.{NameKind}
use Rattle.hm_uses.specs.Mentions.{all_hidden_mentions}
use Rattle.hm_uses.specs.Uses.{HasExport, HasItem, InHeader, OfItem, Sense, ambiguous, unbound}

-- the name is used in the header of the module, and means this
abbrev pub IsUsedInHeader : Module → List Interface → Identifier → Sense → Type 0
IsUsedInHeader m fs n t = (k : NameKind) × InHeader m fs n k false t

-- the export list has the name, and it isn't in scope; or it has `module n`, and n isn't imported; or an import list has it, and the imported
-- module doesn't export it
abbrev pub IsUnboundFault : Module → List Interface → Identifier → Type 0
IsUnboundFault m fs n = FaultAt m fs Exporting Unbound n ⊎ (FaultAt m fs Exporting NotImported n ⊎ FaultAt m fs Importing NotExported n)

-- the names that are unbound without a fault: those after `hiding` (5.3.1), and the constructors of a type that has a fault itself
pub data HasNoFault (m : Module) (fs : List Interface) (n : Identifier) : Type 0 where
  hidden : {i : Import} {is : List ImportItem} →
      Contains m.header.imports i → i.list ≡ list.Hiding is → Contains (map (λ u. u.name) (all_hidden_mentions is)) n → HasNoFault m fs n
  of_exported : {t : Identifier} {cs : List Identifier} →
      HasExport m (export.Con t (subs.Some cs)) → Contains cs n → ((e : Entity) → ¬ (Means m fs Types t e)) → HasNoFault m fs n
  of_listed : {i : Import} {t : Identifier} {cs : List Identifier} →
      Contains m.header.imports i → HasItem i (item.Con t (subs.Some cs)) → Contains cs n → OfItem fs i Types t.text unbound → HasNoFault m fs n

-- a name of the header is such a fault exactly if its use says so
pub record HeaderFaultsAreUses (m : Module) (fs : List Interface) (n : Identifier) : Type 0 where
  pub ambiguous_one : FaultAt m fs Exporting Ambiguous n ↔ IsUsedInHeader m fs n ambiguous
  pub of_unbound : IsUnboundFault m fs n → IsUsedInHeader m fs n unbound
  pub unbound_one : ¬ (HasNoFault m fs n) → IsUsedInHeader m fs n unbound → IsUnboundFault m fs n

-- with Prelude's interface and those of the imported modules
abbrev pub HeaderFaults : Type 0
HeaderFaults = (m : Module) (p : Interface) (fs : List Interface) → p.name ≡ prelude_name → AreImportsOf m fs → (n : Identifier) → HeaderFaultsAreUses m (p ∷ fs) n
