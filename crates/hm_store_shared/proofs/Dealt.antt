-- What holds of each of a list, and of one more behind it.
use Rattle.std.proofs.Common.{◌≡◌, ℕ, zero, suc, ◌+◌, ◌<◌, List, [], ◌∷◌, ◌++◌, length, slice_index_or, ◌∙◌, arith}
use Rattle.std.specs.Prelude.{All}
use Rattle.std.proofs.lemmas.List.Elements.{All-append}

-- what holds of all, and of one more
pub all_and_one : {A : Type 0} (P : A → Type 0) (xs : List A) (x : A) → All P xs → P x → All P (xs ++ x ∷ [])
all_and_one P xs x all one = All-append P xs (x ∷ []) all (only P x one)
  where
    only : {A : Type 0} (P : A → Type 0) (x : A) → P x → All P (x ∷ [])
    only P x h zero d lt = h
    only P x h (suc k) d lt = absurd (omega (arith, lt))

numbered_more : {A : Type 0} (number : A → ℕ) (at : ℕ) (xs : List A) (x : A) → ((k : ℕ) (d : A) → k < length xs → number (slice_index_or xs k d) ≡ at + k) → number x ≡ at + length xs
    → (k : ℕ) (d : A) → k < suc (length xs) → number (slice_index_or (xs ++ x ∷ []) k d) ≡ at + k
numbered_more number at [] x h is zero d lt = is
numbered_more number at [] x h is (suc k) d lt = absurd (omega (arith, lt))
numbered_more number at (y ∷ xs) x h is zero d lt = h 0 d (omega arith)
numbered_more number at (y ∷ xs) x h is (suc k) d lt =
    numbered_more number (suc at) xs x (λ j e l. h (suc j) e (omega (arith, l)) ∙ omega arith) (is ∙ omega arith) k d (omega (arith, lt)) ∙ omega arith

-- what numbers each, where one more has the next number
pub numbered : {A : Type 0} (number : A → ℕ) (xs : List A) (x : A) (n : ℕ) → length xs ≡ n → ((k : ℕ) (d : A) → k < n → number (slice_index_or xs k d) ≡ k) → number x ≡ n
    → (k : ℕ) (d : A) → k < n + 1 → number (slice_index_or (xs ++ x ∷ []) k d) ≡ k
numbered number xs x n count h is k d lt = numbered_more number 0 xs x (λ j e l. h j e (omega (arith, l, count)) ∙ omega arith) (is ∙ omega (arith, count)) k d (omega (arith, lt, count)) ∙ omega arith
