use Rattle.std.proofs.Common.{◌≡◌, ℕ, ◌+◌, ◌-◌, ◌<◌, ◌≤◌, length, drop, get_or}
use Rattle.std.specs.List.{prefix_len}
use Rattle.hm_lex.specs.Bytes.{is_symbol}
use Rattle.hm_messages_hints.proofs.lexeme_hints.symbols_len.Given as goal

abbrev pub invariant-loop-len : goal.invariant-loop-len
invariant-loop-len l = record {
  within : l.len ≤ length l.text;
  run : l.len + prefix_len is_symbol (drop l.len l.text) ≡ prefix_len is_symbol l.text;
  ascii : (k : ℕ) → k < l.len → get_or l.text k 0 < 128;
}

abbrev pub decreases-loop-len : goal.decreases-loop-len
decreases-loop-len l = length l.text - l.len
