-- A relation of the names of two lists, at one more index.
use Rattle.std.proofs.Common.{◌≡◌, ℕ, ◌+◌, ◌<◌, List, length, get_or, inl, inr, arith, subst}
use Rattle.std.proofs.lemmas.Bool.{cases_lt}
use Rattle.std.proofs.lemmas.List.{get_or_read}
use Rattle.hm_uses_references.specs.SetNames.{SetName}

pub pairs_more : (P : SetName → SetName → Type 0) (xs ys : List SetName) (i : ℕ) (x y : SetName) → length xs ≡ length ys → i < length xs → x ≡ get_or xs i x → y ≡ get_or ys i y
    → ((k : ℕ) (d : SetName) → k < i → P (get_or xs k d) (get_or ys k d)) → P x y → (k : ℕ) (d : SetName) → k < i + 1 → P (get_or xs k d) (get_or ys k d)
pairs_more P xs ys i x y size inside is_x is_y before here k d within = elim (cases_lt k i) [
  | inl low ↦ before k d low
  | inr high ↦
      let same : i ≡ k = omega (arith, high, within) in
      let low : i < length ys = omega (arith, inside, size) in
      let first : P (get_or xs i d) y = subst (λ (z : SetName). P z y) (get_or_read xs i x inside is_x d) here in
      let both : P (get_or xs i d) (get_or ys i d) = subst (λ (z : SetName). P (get_or xs i d) z) (get_or_read ys i y low is_y d) first in
      subst (λ (j : ℕ). P (get_or xs j d) (get_or ys j d)) same both
]
