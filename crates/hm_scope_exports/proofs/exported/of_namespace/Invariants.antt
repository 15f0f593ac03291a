use Rattle.std.proofs.Common.{take}
use Rattle.hm_scope_exports.specs.ExportedRows.{AreOnePerName}
use Rattle.hm_scope_exports.proofs.exported.of_namespace.Given as goal

abbrev pub invariant-loop-binding : goal.invariant-loop-binding
invariant-loop-binding l = AreOnePerName l.space (take l.binding-index l.given) l.names l.out.items
