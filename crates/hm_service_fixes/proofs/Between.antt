-- Numbers in a range, while a loop goes through it.
use Rattle.std.proofs.Common.{◌≡◌, ◌+◌, ◌<◌, ℕ, arith, inl, inr, subst, sym}
use Rattle.std.proofs.lemmas.Bool.{cases_lt}

-- one more number with the property
pub all_more : (P : ℕ → Type 0) (n : ℕ) → P n → ((k : ℕ) → k < n → P k) → (k : ℕ) → k < n + 1 → P k
all_more P n here before k below = elim (cases_lt k n) [
  | inl less ↦ before k less
  | inr past ↦ let last : k ≡ n = omega (arith, past, below) in subst P (sym last) here
]
