-- Rows that are read one by one.
use Rattle.std.proofs.Common.{◌≡◌, ℕ, zero, suc, ◌<◌, List, [], ◌∷◌, ◌++◌, length, Option, Some, None, refl, sym, ap, ◌∙◌, arith, append_assoc}
use Rattle.std.proofs.lemmas.List.{append-nil}
use Rattle.hm_parse_grammar.specs.Tokens.{Terminal}
use Rattle.hm_parse_grammar.specs.Reading.Basics.{◌>>=◌, Reader, loop_with, loop_for, loop, behind}
use Rattle.hm_parse_grammar.proofs.Holds.{Holds, holds_none, holds_some, holds_then}

-- What a step of a row may answer, where P says which rows are right.
abbrev pub Step : {A : Type 0} → (List A → List Terminal → List Terminal → Type 0) → List Terminal → Option A × List Terminal → Type 0
Step P ts (None, us) = P [] ts us
Step {A = A} P ts (Some a, us) = (length us < length ts) × ((rest : List A) (vs : List Terminal) → P rest us vs → P (a ∷ rest) ts vs)

pub record Steps {A : Type 0} (P : List A → List Terminal → List Terminal → Type 0) (next : Reader (Option A)) : Type 0 where
  pub step : (ts : List Terminal) → Holds (Step P ts) (next ts)

module _ {A : Type 0} {P : List A → List Terminal → List Terminal → Type 0} {next : Reader (Option A)} (s : Steps P next) where
  pub falls : (ts us : List Terminal) (a : A) → next ts ≡ Some (Some a, us) → length us < length ts
  falls ts us a e = ((s.step ts).holds (Some a, us) e).0

  enough : (n m : ℕ) (ts : List Terminal) → length ts < n → length ts < m → loop_for n next ts ≡ loop_for m next ts
  enough zero m ts h k = absurd (omega arith)
  enough (suc n) zero ts h k = absurd (omega arith)
  enough (suc n) (suc m) ts h k = same (λ us l. enough n m us (omega arith) (omega arith)) (next ts) refl
    where
      same : ((us : List Terminal) → length us < length ts → loop_for n next us ≡ loop_for m next us) → (r : Option (Option A × List Terminal)) → next ts ≡ r → loop_with (loop_for n next) r ≡ loop_with (loop_for m next) r
      same hyp None e = refl
      same hyp (Some (None, us)) e = refl
      same hyp (Some (Some a, us)) e = ap (λ o. o >>= λ x. Some (a ∷ x.0, x.1)) (hyp us (falls ts us a e))

  -- a row is one step and a row
  pub loop_is : (ts : List Terminal) → loop next ts ≡ loop_with (loop next) (next ts)
  unfolding loop
  loop_is ts = same (next ts) refl
    where
      same : (r : Option (Option A × List Terminal)) → next ts ≡ r → loop_with (loop_for (length ts) next) r ≡ loop_with (loop next) r
      same None e = refl
      same (Some (None, us)) e = refl
      same (Some (Some a, us)) e =
          let less : length us < length ts = falls ts us a e in
          ap (λ o. o >>= λ x. Some (a ∷ x.0, x.1)) (enough (length ts) (suc (length us)) us (omega arith) (omega arith))

  found_for : (n : ℕ) (ts : List Terminal) → Holds (λ (x : List A × List Terminal). P x.0 ts x.1) (loop_for n next ts)
  found_for zero ts = holds_none
  found_for (suc n) ts = by_step (λ us. found_for n us) (next ts) (s.step ts)
    where
      by_step : ((us : List Terminal) → Holds (λ (x : List A × List Terminal). P x.0 us x.1) (loop_for n next us)) → (r : Option (Option A × List Terminal)) → Holds (Step P ts) r → Holds (λ (x : List A × List Terminal). P x.0 ts x.1) (loop_with (loop_for n next) r)
      by_step hyp None h = holds_none
      by_step hyp (Some (None, us)) h = holds_some _ (h.holds _ refl)
      by_step hyp (Some (Some a, us)) h = holds_then _ _ (hyp us) (λ x d. holds_some _ ((h.holds _ refl).1 x.0 x.1 d))

  pub loop_found : (ts : List Terminal) → Holds (λ (x : List A × List Terminal). P x.0 ts x.1) (loop next ts)
  unfolding loop
  loop_found ts = found_for (suc (length ts)) ts

  pub loop_stops : (ts us : List Terminal) → next ts ≡ Some (None, us) → loop next ts ≡ Some ([], us)
  loop_stops ts us e = loop_is ts ∙ rw e refl

  pub loop_takes : (ts us : List Terminal) (a : A) → next ts ≡ Some (Some a, us) → loop next ts ≡ (loop next us >>= λ x. Some (a ∷ x.0, x.1))
  loop_takes ts us a e = loop_is ts ∙ rw e refl

  -- loops in the program

  behind_one : (xs : List A) (a : A) (r : Option (List A × List Terminal)) → behind xs (r >>= λ x. Some (a ∷ x.0, x.1)) ≡ behind (xs ++ a ∷ []) r
  behind_one xs a None = refl
  behind_one xs a (Some x) = ap (λ z. Some (z, x.1)) (sym (append_assoc xs (a ∷ []) x.0))

  pub goes_on : (xs : List A) (a : A) (ts us : List Terminal) → next ts ≡ Some (Some a, us) → behind (xs ++ a ∷ []) (loop next us) ≡ behind xs (loop next ts)
  goes_on xs a ts us e = sym (ap (behind xs) (loop_takes ts us a e) ∙ behind_one xs a (loop next us))

  pub ends : (xs : List A) (ts us : List Terminal) → next ts ≡ Some (None, us) → behind xs (loop next ts) ≡ Some (xs, us)
  ends xs ts us e = ap (behind xs) (loop_stops ts us e) ∙ ap (λ z. Some (z, us)) (append-nil xs)

  pub fails : (xs : List A) (ts : List Terminal) → next ts ≡ None → behind xs (loop next ts) ≡ None
  fails xs ts e = ap (behind xs) (loop_is ts) ∙ rw e refl

pub starts : {A : Type 0} (r : Option (List A × List Terminal)) → behind [] r ≡ r
starts None = refl
starts (Some x) = refl
