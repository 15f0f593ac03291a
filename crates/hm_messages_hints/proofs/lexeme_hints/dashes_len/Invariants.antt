use Rattle.std.proofs.Common.{◌≡◌, ◌+◌, ◌-◌, ◌≤◌, length, drop}
use Rattle.std.specs.List.{prefix_len}
use Rattle.hm_lex.specs.Symbols.{is_dash}
use Rattle.hm_messages_hints.proofs.lexeme_hints.dashes_len.Given as goal

abbrev pub invariant-loop-len : goal.invariant-loop-len
invariant-loop-len l = record {
  within : l.len ≤ length l.text;
  run : l.len + prefix_len is_dash (drop l.len l.text) ≡ prefix_len is_dash l.text;
}

abbrev pub decreases-loop-len : goal.decreases-loop-len
decreases-loop-len l = length l.text - l.len
