-- An order of numbers without those that aren't marked.
use Rattle.std.proofs.Common.{◌≡◌, ℕ, zero, suc, ◌+◌, ◌<◌, Bool, true, false, cond, List, [], ◌∷◌, length, take, filter, get_or, ◌⊎◌, inl, inr, refl, sym, ap, ◌∙◌, subst, Contains, arith}
use Rattle.std.proofs.lemmas.Bool.{both_ways}
use Rattle.hm_names.proofs.Members.{none_in, cases, first, rest}

pub in_filter : (p : ℕ → Bool) (xs : List ℕ) (k : ℕ) → Contains xs k → p k ≡ true → Contains (filter p xs) k
in_filter p [] k c h = absurd (none_in k c)
in_filter p (x ∷ xs) k c h = go (p x) refl (cases x xs k c) (λ o. in_filter p xs k o h)
  where
    go : (b : Bool) → p x ≡ b → (k ≡ x) ⊎ Contains xs k → (Contains xs k → Contains (filter p xs) k) → Contains (cond b (x ∷ filter p xs) (filter p xs)) k
    go true e (inl s) again = subst (λ z. Contains (x ∷ filter p xs) z) (sym s) (first x (filter p xs))
    go true e (inr o) again = rest x (filter p xs) k (again o)
    go false e (inl s) again = absurd (both_ways (p x) e (subst (λ z. p z ≡ true) s h))
    go false e (inr o) again = again o

-- the place in the whole order of what is at place i in the rest
pub record WholePlace (p : ℕ → Bool) (xs ys : List ℕ) (i : ℕ) : Type 0 where
  pub at : ℕ
  pub inside : at < length xs
  pub same : get_or xs at 0 ≡ get_or ys i 0
  pub marked : p (get_or ys i 0) ≡ true
  pub before : take i ys ≡ filter p (take at xs)

pub whole_place : (p : ℕ → Bool) (xs : List ℕ) (i : ℕ) → i < length (filter p xs) → WholePlace p xs (filter p xs) i
whole_place p [] i h = absurd (omega (arith, h))
whole_place p (x ∷ xs) i h = go (p x) refl i h (λ j g. whole_place p xs j g)
  where
    one_more : {b : Bool} → p x ≡ b → (at : ℕ) → filter p (take (suc at) (x ∷ xs)) ≡ cond b (x ∷ filter p (take at xs)) (filter p (take at xs))
    one_more e at = ap (λ b. cond b (x ∷ filter p (take at xs)) (filter p (take at xs))) e

    go : (b : Bool) → p x ≡ b → (i : ℕ) → i < length {A = ℕ} (cond b (x ∷ filter p xs) (filter p xs)) → ((j : ℕ) → j < length (filter p xs) → WholePlace p xs (filter p xs) j) → WholePlace p (x ∷ xs) (cond b (x ∷ filter p xs) (filter p xs)) i
    go true e zero g again = record { at = 0; inside = omega arith; same = refl; marked = e; before = refl }
    go true e (suc j) g again =
        let q = again j (omega (arith, g)) in
        let inside = q.inside in
        record { at = suc q.at; inside = omega (arith, inside); same = q.same; marked = q.marked; before = ap (λ l. x ∷ l) q.before ∙ sym (one_more e q.at) }
    go false e j g again =
        let q = again j g in
        let inside = q.inside in
        record { at = suc q.at; inside = omega (arith, inside); same = q.same; marked = q.marked; before = q.before ∙ sym (one_more e q.at) }
