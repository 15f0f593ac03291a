use Rattle.std.proofs.Common.{◌≡◌, ℕ, ◌*◌, ◌<◌, length, get_or, take}
use Rattle.hm_messages_excerpts.specs.Columns.{stride, units_of}
use Rattle.hm_messages_excerpts.specs.declared.columns.Units.{Units}
use Rattle.hm_messages_excerpts.proofs.columns.units_table.Given as goal

abbrev pub invariant-loop-row : goal.invariant-loop-row
invariant-loop-row l = record {
  many : length l.table.items ≡ l.row;
  each : (k : ℕ) (d : Units) → k < length l.table.items → get_or l.table.items k d ≡ units_of (take (k * stride) l.source);
  sum : l.sum ≡ units_of (take (l.row * stride) l.source);
}
