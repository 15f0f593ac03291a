-- The exports of an item of an export list, and its faults, by cases of the item. No public clause names these.
use Rattle.std.specs.Prelude.{◌≡◌, ℕ, List, Option, None, Some, ◌⊎◌, ◌↔◌, Contains}
use Rattle.hm_types.specs.declared.Entity.{Entity}
use Rattle.hm_types.specs.Interfaces.{Exports as Interface}
use Rattle.hm_syntax.specs.Names.{Identifier}
use Rattle.hm_syntax.specs.declared.ast.Module.{Module}
use Rattle.hm_syntax.specs.declared.ast.Export.{Export}
use Rattle.hm_syntax.specs.declared.ast.Export.TheVariants as export
use Rattle.hm_syntax.specs.declared.ast.SubItems.{SubItems}
use Rattle.hm_syntax.specs.declared.ast.SubItems.TheVariants as subs
use Rattle.hm_names.specs.declared.namespace.Namespace.{Namespace}
use Rattle.hm_names.specs.declared.namespace.Namespace.TheVariants.{Types, Values}
use Rattle.hm_names.specs.declared.faults.Fault.{Fault}
use Rattle.hm_names.specs.declared.faults.Kind.TheVariants.{Unbound, Ambiguous, ExportClash, NotImported}
use Rattle.hm_scope_exports.specs.declared.exports.Exporter.{Exporter}
use Rattle.hm_names.specs.Bindings.{Pair, IsScopeOf, IsSeveral, Adds}
use Rattle.hm_names.specs.Exports.{HasConstructor, IsModuleName}
use Rattle.hm_scope_export_items.specs.ExportGroups.{IsBoth, IsOwned, AreGroupsOf}
use Rattle.hm_names.specs.Faults.Exports.{item_name, bare_at, Clashes, IsAtMost}
use Rattle.hm_names.specs.Faults.Phases.{fault}
use Rattle.hm_names.specs.Scope.{IsUnbound, IsAmbiguous, Means}

-- the tables for the exports of the module
pub record IsExporterOf (m : Module) (fs : List Interface) (e : Exporter) : Type 0 where
  pub scope : IsScopeOf m fs e.scope.now
  pub modules : (x : List ℕ) → Contains e.modules x ↔ IsModuleName m x
  pub groups : AreGroupsOf m fs e.groups

abbrev pub bare_pair : Namespace → List ℕ → Entity → Pair
bare_pair s x e = record { space = s; qualifier = None; text = x; entity = e }

-- the exports of the list after an exported type t
abbrev pub GivesBehind : Module → List Interface → Entity → SubItems → Pair → Type 0
GivesBehind m fs t subs.None p = ⊥
GivesBehind m fs t subs.All p = IsOwned m fs t p
GivesBehind m fs t (subs.Some cs) p = (c : Identifier) × (Contains cs c × (IsOwned m fs t p × (p.text ≡ c.text)))

-- the exports of an item
abbrev pub GivesPair : Module → List Interface → Export → Pair → Type 0
GivesPair m fs (export.Var n) p = (e : Entity) × (Means m fs Values n e × (bare_pair Values n.text e ≡ p))
GivesPair m fs (export.Con n s) p = (t : Entity) × (Means m fs Types n t × ((bare_pair Types n.text t ≡ p) ⊎ GivesBehind m fs t s p))
GivesPair m fs (export.Whole n) p = IsModuleName m n.text × IsBoth m fs n.text p

-- the name means no entity, or several
abbrev pub NameFault : Module → List Interface → Namespace → Identifier → Fault → Type 0
NameFault m fs s n g = (IsUnbound m fs s n × (fault Unbound n ≡ g)) ⊎ (IsAmbiguous m fs s n × (fault Ambiguous n ≡ g))

-- the faults of the list after an exported type t
abbrev pub FaultBehind : Module → List Interface → Entity → SubItems → Fault → Type 0
FaultBehind m fs t subs.None g = ⊥
FaultBehind m fs t subs.All g = ⊥
FaultBehind m fs t (subs.Some cs) g = (c : Identifier) × (Contains cs c × (((k : Entity) → ¬ (HasConstructor m fs t c.text k)) × (fault Unbound c ≡ g)))

-- the faults of an item except its clash
abbrev pub ItemFault : Module → List Interface → Export → Fault → Type 0
ItemFault m fs (export.Var n) g = NameFault m fs Values n g
ItemFault m fs (export.Con n s) g = NameFault m fs Types n g ⊎ ((t : Entity) × (Means m fs Types n t × FaultBehind m fs t s g))
ItemFault m fs (export.Whole n) g = (¬ (IsModuleName m n.text)) × (fault NotImported n ≡ g)

-- its clash with itself and earlier items
abbrev pub ClashFault : Module → List Interface → List Export → Export → Fault → Type 0
ClashFault m fs before i g = (x : List ℕ) × (Clashes m fs before i x × (((y : List ℕ) → Clashes m fs before i y → IsAtMost x y) × (fault ExportClash (bare_at (item_name i) x) ≡ g)))

-- the result for the meaning of an exported name, with the faults before and after
abbrev pub IsExportMeaning : Module → List Interface → Namespace → Identifier → List Fault → List Fault → Option Entity → Type 0
IsExportMeaning m fs s n old new None = ((e : Entity) → ¬ (Means m fs s n e)) × Adds old new (NameFault m fs s n)
IsExportMeaning m fs s n old new (Some e) = Means m fs s n e × (new ≡ old)

-- the least name among those of the list that mean several entities
abbrev pub IsLeastOf : List Pair → List Pair → Option (List ℕ) → Type 0
IsLeastOf all given None = (p : Pair) → Contains given p → ¬ (IsSeveral all p)
IsLeastOf all given (Some x) = ((p : Pair) × (Contains given p × (IsSeveral all p × (p.text ≡ x)))) × ((p : Pair) → Contains given p → IsSeveral all p → IsAtMost x p.text)

-- the fault of the least of these names, at the item
abbrev pub LeastFault : List Pair → List Pair → Export → Fault → Type 0
LeastFault all given i g = (x : List ℕ) × (IsLeastOf all given (Some x) × (fault ExportClash (bare_at (item_name i) x) ≡ g))
