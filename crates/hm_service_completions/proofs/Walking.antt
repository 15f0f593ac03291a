-- The last number with a property, from the end on.
use Rattle.std.proofs.Common.{◌≡◌, ℕ, ◌+◌, ◌-◌, ◌<◌, ◌≤◌, inl, inr, sym, subst, arith}
use Rattle.std.proofs.lemmas.Bool.{cases_lt}

pub back_more : (P : ℕ → Type 0) (count back n : ℕ) → back < count → n ≡ count - 1 - back → ¬ (P n) → ((j : ℕ) → count ≤ j + back → j < count → ¬ (P j)) → (j : ℕ) → count ≤ j + (back + 1) → j < count → P j → ⊥
back_more P count back n low is none before j high below p = elim (cases_lt n j) [
  | inl after ↦ before j (omega (arith, low, is, after, below)) below p
  | inr within ↦ let same : j ≡ n = omega (arith, low, is, within, high) in none (subst P same p)
]

pub later : (count back n j : ℕ) → back < count → n ≡ count - 1 - back → n < j → count ≤ j + back
later count back n j low is after = omega (arith, low, is, after)

pub ended : (count back j : ℕ) → count ≤ back → count ≤ j + back
ended count back j ends = omega (arith, ends)

pub inside : (count back : ℕ) → back < count → count - 1 - back < count
inside count back low = omega (arith, low)
