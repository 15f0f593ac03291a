use Rattle.std.proofs.Common.{◌≡◌, ◌<◌, ◌≤◌, length, ℕ, true, get_or}
use Rattle.hm_parse_grammar.specs.Tokens.{is_of_part}
use Rattle.hm_parse_grammar.proofs.text.last_start.Given as goal

abbrev pub invariant-loop-start : goal.invariant-loop-start
invariant-loop-start l = record {
  within : l.start ≤ length l.text;
  passed : (k : ℕ) → l.start ≤ k → k < length l.text → is_of_part (get_or l.text k 0) ≡ true;
}

abbrev pub decreases-loop-start : goal.decreases-loop-start
decreases-loop-start l = l.start
