-- The worked limits.
use Rattle.std.proofs.Common.{◌≡◌, ◌∙◌, sym, arith}
use Rattle.hm_messages_trials.specs.WorkedLimits.{LimitsRow}

pub worked_limits_row : LimitsRow
worked_limits_row = record {
  nothing = λ e is. is;
  some = λ e one none is. let other : 1 ≡ 0 = sym one ∙ is in absurd (omega (arith, other));
}
