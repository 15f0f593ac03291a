use Rattle.std.proofs.Common.{◌≡◌, ◌≤◌, ◌+◌, ℕ, length, drop}
use Rattle.hm_messages_outline.specs.Brackets.{IsOpen, unmatched as count}
use Rattle.hm_messages_outline.proofs.brackets.open_bracket.Given as goal

abbrev pub invariant-loop-at : goal.invariant-loop-at
invariant-loop-at l = record {
  within : l.at ≤ length l.symbols;
  small : l.unmatched + l.at ≤ length l.symbols;
  counted : count (drop l.at l.symbols) ≡ l.unmatched;
  none : (j : ℕ) → l.at ≤ j → IsOpen l.symbols j → ⊥;
}

abbrev pub decreases-loop-at : goal.decreases-loop-at
decreases-loop-at l = l.at
