use Rattle.std.proofs.Common.{◌≡◌, ◌-◌, ◌<◌, ◌≤◌, length, drop}
use Rattle.hm_lex.specs.Nesting.{close_len, plus}
use Rattle.hm_lex.proofs.comments.nested_len.Given as goal

abbrev pub invariant-loop-at : goal.invariant-loop-at
invariant-loop-at l = record {
  one_open : 0 < l.depth;
  bounded : l.depth ≤ l.at;
  within : l.at ≤ length l.bytes;
  closes : plus l.at (close_len l.depth (drop l.at l.bytes)) ≡ plus 2 (close_len 1 (drop 2 l.bytes));
}

abbrev pub decreases-loop-at : goal.decreases-loop-at
decreases-loop-at l = length l.bytes - l.at
