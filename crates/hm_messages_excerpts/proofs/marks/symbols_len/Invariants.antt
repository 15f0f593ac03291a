use Rattle.std.proofs.Common.{◌≡◌, ◌+◌, ◌-◌, ◌≤◌, length, drop}
use Rattle.std.specs.List.{prefix_len}
use Rattle.hm_lex.specs.Bytes.{is_symbol}
use Rattle.hm_messages_excerpts.proofs.marks.symbols_len.Given as goal

abbrev pub invariant-loop-len : goal.invariant-loop-len
invariant-loop-len l = record {
  within : l.len ≤ length l.bytes;
  run : l.len + prefix_len is_symbol (drop l.len l.bytes) ≡ prefix_len is_symbol l.bytes;
}

abbrev pub decreases-loop-len : goal.decreases-loop-len
decreases-loop-len l = length l.bytes - l.len
