-- Two readings that are the same, and what holds of the answer.
use Rattle.std.proofs.Common.{◌≡◌, ℕ, zero, suc, ◌<◌, List, [], ◌∷◌, length, Bool, true, false, Option, Some, None, refl, cond, arith}
use Rattle.hm_parse_grammar.specs.declared.symbol.Symbol.{Symbol}
use Rattle.hm_parse_grammar.specs.Symbols.{same}
use Rattle.hm_parse_grammar.specs.Tokens.{Terminal}
use Rattle.hm_parse_grammar.specs.Reading.Basics.{◌>>=◌, Reader, expect, loop_with, loop_for, loop}
use Rattle.hm_parse_grammar.proofs.Holds.{Holds, same_true}
use Rattle.hm_parse_grammar.proofs.Rows.{Step}

pub record Both {A : Type 0} (P : A → Type 0) (a b : Option A) : Type 0 where
  pub equal : a ≡ b
  pub holds : (x : A) → a ≡ Some x → P x

module _ {A : Type 0} {P : A → Type 0} where
  pub both_none : Both P None None
  both_none = record { equal = refl; holds = λ x e. cc }

  pub both_some : (x : A) → P x → Both P (Some x) (Some x)
  both_some x p = record { equal = refl; holds = λ y e. let same : x ≡ y = cc in rw (← same) p }

  pub both_if : (c : Bool) (a b a' b' : Option A) → (c ≡ true → Both P a b) → (c ≡ false → Both P a' b') → Both P (cond c a a') (cond c b b')
  both_if true a b a' b' f g = f refl
  both_if false a b a' b' f g = g refl

module _ {A B : Type 0} {P : A → Type 0} {Q : B → Type 0} where
  pub both_then : (a b : Option A) (f g : A → Option B) → Both P a b → ((x : A) → P x → Both Q (f x) (g x)) → Both Q (a >>= f) (b >>= g)
  both_then None b f g h k = rw (← h.equal) both_none
  both_then (Some x) b f g h k = rw (← h.equal) (k x (h.holds x refl))

module _ {A : Type 0} {P Q : A → Type 0} where
  pub both_more : {a b : Option A} → Both P a b → ((x : A) → P x → Q x) → Both Q a b
  both_more h k = record { equal = h.equal; holds = λ x e. k x (h.holds x e) }

-- a reading, of which something is known, is the same as itself
module _ {A : Type 0} {P : A → Type 0} where
  pub both_held : {a : Option A} → Holds P a → Both P a a
  both_held h = record { equal = refl; holds = h.holds }

-- a token that has to come
module _ {B : Type 0} {Q : B → Type 0} where
  pub both_expect : (s : Symbol) (ts : List Terminal) (f g : List Terminal → Option B) →
      ((m : Terminal) (us : List Terminal) → ts ≡ m ∷ us → m.symbol ≡ s → Both Q (f us) (g us)) →
      Both Q (expect s ts >>= f) (expect s ts >>= g)
  both_expect s [] f g k = both_none
  both_expect s (m ∷ us) f g k = chosen (same m.symbol s) refl
    where
      chosen : (c : Bool) → same m.symbol s ≡ c → Both Q (cond c (Some us) None >>= f) (cond c (Some us) None >>= g)
      chosen true e = k m us refl (same_true _ _ e)
      chosen false e = both_none

-- rows
module _ {A : Type 0} (P : List A → List Terminal → List Terminal → Type 0) (n : ℕ) (f g : Reader (Option A)) (h : (ts : List Terminal) → length ts < n → Both (Step P ts) (f ts) (g ts)) where
  rows : (m : ℕ) (ts : List Terminal) → length ts < n → Both (λ (x : List A × List Terminal). P x.0 ts x.1) (loop_for m f ts) (loop_for m g ts)
  rows zero ts l = both_none
  rows (suc m) ts l = by_step (λ us k. rows m us (omega arith)) (f ts) (g ts) (h ts l)
    where
      by_step : ((us : List Terminal) → length us < length ts → Both (λ (x : List A × List Terminal). P x.0 us x.1) (loop_for m f us) (loop_for m g us)) →
          (a b : Option (Option A × List Terminal)) → Both (Step P ts) a b → Both (λ (x : List A × List Terminal). P x.0 ts x.1) (loop_with (loop_for m f) a) (loop_with (loop_for m g) b)
      by_step hyp None b k = rw (← k.equal) both_none
      by_step hyp (Some (None, us)) b k = rw (← k.equal) (both_some ([], us) (k.holds (None, us) refl))
      by_step hyp (Some (Some a, us)) b k =
          let one = k.holds (Some a, us) refl in
          rw (← k.equal) (both_then _ _ _ _ (hyp us one.0) (λ x d. both_some (a ∷ x.0, x.1) (one.1 x.0 x.1 d)))

  pub both_loop : (ts : List Terminal) → length ts < n → Both (λ (x : List A × List Terminal). P x.0 ts x.1) (loop f ts) (loop g ts)
  unfolding loop
  both_loop ts l = rows (suc (length ts)) ts l
