use Rattle.std.proofs.Common.{take}
use Rattle.hm_scope_tables.specs.Tables.{IsTable}
use Rattle.hm_scope_tables.proofs.table.Scope.of.Given as goal

abbrev pub invariant-loop-binding : goal.invariant-loop-binding
invariant-loop-binding l = IsTable (take l.binding-index l.fn.pairs.items) l.table
