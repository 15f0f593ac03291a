use Rattle.std.proofs.Common.{◌≡◌, ◌++◌, take}
use Rattle.hm_scope_tables.specs.Tables.{IsTable}
use Rattle.hm_scope_exports.proofs.exports.add_all.Given as goal

abbrev pub invariant-loop-pair : goal.invariant-loop-pair
invariant-loop-pair l = (l.given.items ≡ l.initial.given.items ++ take l.pair-index l.out) × (IsTable l.initial.given.items l.initial.table → IsTable l.given.items l.table)
