use Rattle.std.proofs.Common.{take}
use Rattle.hm_scope_tables.specs.Tables.{IsTable}
use Rattle.hm_scope_names.proofs.meant.table_of.Given as goal

abbrev pub invariant-pairs : goal.invariant-pairs
invariant-pairs l = IsTable (take l.pair-index l.pairs) l.table
