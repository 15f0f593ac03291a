use Rattle.std.proofs.Common.{List, take}
use Rattle.hm_types.specs.Interfaces.{Exports as Interface}
use Rattle.hm_syntax.specs.declared.ast.Module.{Module}
use Rattle.hm_scope_exports.specs.ExportItems.{IsExporterOf}
use Rattle.hm_scope_exports.specs.ModuleExports.{AreExportsSoFar}
use Rattle.hm_scope_exports.proofs.exports.listed_exports.Given as goal

abbrev pub invariant-loop-item : goal.invariant-loop-item
invariant-loop-item l = (m : Module) (fs : List Interface) → IsExporterOf m fs l.exporter → AreExportsSoFar m fs (take l.item-index l.items) l.exports l.table
