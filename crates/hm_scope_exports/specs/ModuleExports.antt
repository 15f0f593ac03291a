-- The result for the exports of a module. No public clause names these.
use Rattle.std.specs.Prelude.{◌≡◌, ℕ, List, ◌∷◌, ◌++◌, None, Contains, ◌↔◌, ◌⊎◌}
use Rattle.hm_types.specs.declared.Entity.{Entity}
use Rattle.hm_types.specs.Interfaces.{Exports as Interface}
use Rattle.hm_syntax.specs.declared.ast.Export.{Export}
use Rattle.hm_syntax.specs.declared.ast.Module.{Module}
use Rattle.hm_names.specs.declared.faults.Fault.{Fault}
use Rattle.hm_names.specs.declared.namespace.Namespace.{Namespace}
use Rattle.hm_scope_exports.specs.declared.exports.ModuleExports.{ModuleExports}
use Rattle.hm_names.specs.Bindings.{Pair}
use Rattle.hm_names.specs.Exports.{IsExported}
use Rattle.hm_scope_exports.specs.ExportItems.{GivesPair, ItemFault, ClashFault}
use Rattle.hm_names.specs.Faults.Phases.{HasFault, Exporting}
use Rattle.hm_scope_tables.specs.Tables.{Table, IsTable}

-- the exported entities with their names, and the faults of the export list
pub record AreExportsOf (m : Module) (fs : List Interface) (e : ModuleExports) : Type 0 where
  pub given_names : (s : Namespace) (x : List ℕ) (k : Entity) → Contains e.given.items (record { space = s; qualifier = None; text = x; entity = k }) ↔ IsExported m fs s x k
  pub bare : (p : Pair) → Contains e.given.items p → p.qualifier ≡ None
  pub exact : (f : Fault) → Contains e.faults.items f ↔ HasFault m fs Exporting f

-- the exports of the items of an export list, and their faults. No public clause names these
pub record AreListedExports (m : Module) (fs : List Interface) (items : List Export) (e : ModuleExports) : Type 0 where
  pub given : (p : Pair) → Contains e.given.items p ↔ ((i : Export) × (Contains items i × GivesPair m fs i p))
  pub found : (g : Fault) → Contains e.faults.items g ↔ (((i : Export) × (Contains items i × ItemFault m fs i g)) ⊎ ((before : List Export) × ((after : List Export) × ((i : Export) × ((items ≡ before ++ (i ∷ after)) × ClashFault m fs before i g)))))

pub record AreExportsSoFar (m : Module) (fs : List Interface) (items : List Export) (e : ModuleExports) (table : Table) : Type 0 where
  pub listed : AreListedExports m fs items e
  pub tabled : IsTable e.given.items table
