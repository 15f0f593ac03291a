-- The worked mends.
use Rattle.std.proofs.Common.{◌≡◌, ℕ, List, get_or, refl, ap, arith}
use Rattle.hm_messages_trials.specs.Worked.{MendsRow, WrappedRow}

pub worked_mends_row : MendsRow
worked_mends_row = record {
  own = refl;
  there = refl;
  inside = (omega arith, omega arith, omega arith);
  outside = λ i. absurd (omega (arith, i.2));
  exchanged = refl;
  stays = λ e. let other : 121 ≡ 120 = ap (λ (l : List ℕ). get_or l 3 0) e in absurd (omega (arith, other));
  left = refl;
  other = λ e. let apart : 32 ≡ 120 = ap (λ (l : List ℕ). get_or l 2 0) e in absurd (omega (arith, apart));
  brackets = refl;
  elsewhere = λ e. let apart : 41 ≡ 32 = ap (λ (l : List ℕ). get_or l 4 0) e in absurd (omega (arith, apart));
  list = refl;
  argument = refl;
  semicolon = refl;
  comma = refl;
}

pub worked_wrapped_row : WrappedRow
worked_wrapped_row = record {
  just = refl;
  plain = λ e. let apart : 40 ≡ 74 = ap (λ (l : List ℕ). get_or l 2 0) e in absurd (omega (arith, apart));
}
