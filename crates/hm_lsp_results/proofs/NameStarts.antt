-- What is written of a name, byte by byte to the left.
use Rattle.std.proofs.Common.{◌≡◌, ◌-◌, ◌<◌, ◌≤◌, ℕ, List, true, inl, inr, arith, subst, sym}
use Rattle.std.specs.Prelude.{slice_index}
use Rattle.std.proofs.lemmas.Bool.{cases_lt}
use Rattle.hm_lsp_results.specs.Completions.{is_of_name}

pub one_more : (text : List ℕ) (start offset : ℕ) → 0 < start → is_of_name (slice_index text (start - 1)) ≡ true → ((i : ℕ) → start ≤ i → i < offset → is_of_name (slice_index text i) ≡ true)
    → (i : ℕ) → start - 1 ≤ i → i < offset → is_of_name (slice_index text i) ≡ true
one_more text start offset some here before i low high = elim (cases_lt (start - 1) i) [
  | inl after ↦ before i (omega (arith, after)) high
  | inr within ↦ let same : i ≡ start - 1 = omega (arith, low, within) in subst (λ (k : ℕ). is_of_name (slice_index text k) ≡ true) (sym same) here
]
