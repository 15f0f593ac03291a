use Rattle.std.proofs.Common.{◌≡◌, take, map}
use Rattle.hm_scope_exports.specs.ExportedRows.{exported_of}
use Rattle.hm_scope_exports.proofs.exported.exported_in.Given as goal

abbrev pub invariant-loop-binding : goal.invariant-loop-binding
invariant-loop-binding l = l.items.items ≡ map exported_of (take l.binding-index l.binding-items)
