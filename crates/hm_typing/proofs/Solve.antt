-- Answers to compound questions.
use Rattle.std.proofs.Common.{◌≡◌, ℕ, suc, List, [], ◌∷◌, refl, sym, ◌∙◌, subst, inl, inr, ◌⊎◌, ◌<◌, ◌≤◌, ◌+◌, arith}
use Rattle.hm_types.specs.Types.{put}
use Rattle.hm_typing.specs.Schemes.{Monotype}
use Rattle.hm_typing.specs.Problems.{Fact, Equal, Rigid, Unifies, IsBelow, FactsBelow, MostGeneralUnifier, Solved, Answer, solved, unsolvable, IsLocal}
use Rattle.hm_typing.proofs.Types.{put-agree}
use Rattle.hm_typing.proofs.SchemeLaws.{split, split_below, split_from}

pub FactsBelow-more : (n m : ℕ) (E : List Fact) → n ≤ m → FactsBelow n E → FactsBelow m E
FactsBelow-more n m [] l h = tt
FactsBelow-more n m (Equal t u ∷ fs) l h = (((λ a i. (let k = h.0.0 a i in omega arith)), (λ a i. (let k = h.0.1 a i in omega arith))), FactsBelow-more n m fs l h.1)
FactsBelow-more n m (Rigid a ∷ fs) l h = (omega arith, FactsBelow-more n m fs l h.1)

pub put-below : (n : ℕ) (r q : ℕ → Monotype) (t : Monotype) → ((x : ℕ) → x < n → q x ≡ r x) → IsBelow n t → put r t ≡ put q t
put-below n r q t a b = put-agree r q t (λ x i. sym (a x (b x i)))

-- a problem asks only of its variables
pub Unifies-local : (n : ℕ) (E : List Fact) → FactsBelow n E → IsLocal n (λ r. Unifies r E)
Unifies-local n [] b r q a u = tt
Unifies-local n (Equal t s ∷ fs) b r q a u = (sym (put-below n r q t a b.0.0) ∙ (u.0 ∙ put-below n r q s a b.0.1), Unifies-local n fs b.1 r q a u.1)
Unifies-local n (Rigid x ∷ fs) b r q a u = (a x b.0 ∙ u.0, Unifies-local n fs b.1 r q a u.1)

-- the same question in other words
pub same : {P Q : (ℕ → Monotype) → Type 0} (n : ℕ) (E : List Fact) → ((r : ℕ → Monotype) → P r → Q r) → ((r : ℕ → Monotype) → Q r → P r) → Answer P n E → Answer Q n E
same n E f g (solved n' E' s) = solved n' E' (record { grows = s.grows; below = s.below; sound = λ r u. ((s.sound r u).0, f r (s.sound r u).1); complete = λ r u p. s.complete r u (g r p) })
same n E f g (unsolvable never) = unsolvable (λ r u p. never r u (g r p))

pub Solved-both : {P Q : (ℕ → Monotype) → Type 0} (n : ℕ) (E : List Fact) (n1 : ℕ) (E1 : List Fact) (n2 : ℕ) (E2 : List Fact) → IsLocal n Q → Solved P n E n1 E1 → Solved Q n1 E1 n2 E2 → Solved (λ r. P r × Q r) n E n2 E2
Solved-both n E n1 E1 n2 E2 l s t = record {
  grows = (let g = s.grows in let h = t.grows in omega arith);
  below = t.below;
  sound = λ r u. (let b = t.sound r u in let a = s.sound r b.0 in (a.0, (a.1, b.1)));
  complete = λ r u p.
      let a = s.complete r u p.0 in
      let b = t.complete a.0 a.2 (l r a.0 a.1 p.1) in
      (b.0, (λ x h. b.1 x (let g = s.grows in omega arith) ∙ a.1 x h), b.2);
}

pub both_then : {P Q : (ℕ → Monotype) → Type 0} (n : ℕ) (E : List Fact) (n1 : ℕ) (E1 : List Fact) → IsLocal n Q → Solved P n E n1 E1 → Answer Q n1 E1 → Answer (λ r. P r × Q r) n E
both_then n E n1 E1 l s (solved n2 E2 t) = solved n2 E2 (Solved-both n E n1 E1 n2 E2 l s t)
both_then n E n1 E1 l s (unsolvable never) = unsolvable (λ r u p. let a = s.complete r u p.0 in never a.0 a.2 (l r a.0 a.1 p.1))

-- one question and then another
pub both : {P Q : (ℕ → Monotype) → Type 0} (n : ℕ) (E : List Fact) → IsLocal n Q → Answer P n E → ((n1 : ℕ) (E1 : List Fact) → n ≤ n1 → FactsBelow n1 E1 → Answer Q n1 E1) → Answer (λ r. P r × Q r) n E
both n E l (solved n1 E1 s) k = both_then n E n1 E1 l s (k n1 E1 s.grows s.below)
both n E l (unsolvable never) k = unsolvable (λ r u p. never r u p.0)

-- for some types, of which only the first k matter
pub some_types : {P : (ℕ → Monotype) → (ℕ → Monotype) → Type 0} (k n : ℕ) (E : List Fact) → FactsBelow n E →
    ((r q us vs : ℕ → Monotype) → ((x : ℕ) → x < n → q x ≡ r x) → ((i : ℕ) → i < k → vs i ≡ us i) → P r us → P q vs) →
    Answer (λ r. P r (λ i. r (n + i))) (n + k) E → Answer (λ r. (us : ℕ → Monotype) × P r us) n E
some_types {P} k n E b l (solved n' E' s) = solved n' E' (record {
  grows = (let g = s.grows in omega arith);
  below = s.below;
  sound = λ r u. (let a = s.sound r u in (a.0, ((λ i. r (n + i)), a.1)));
  complete = λ r u p.
      let q = split n r p.0 in
      let a = s.complete q (Unifies-local n E b r q (λ x h. split_below n r p.0 x h) u)
      (l r q p.0 (λ i. q (n + i)) (λ x h. split_below n r p.0 x h) (λ i h. split_from n r p.0 i) p.1) in
      (a.0, (λ x h. a.1 x (omega arith) ∙ split_below n r p.0 x h), a.2);
})
some_types {P} k n E b l (unsolvable never) = unsolvable (λ r u p.
    let q = split n r p.0 in
    never q (Unifies-local n E b r q (λ x h. split_below n r p.0 x h) u)
    (l r q p.0 (λ i. q (n + i)) (λ x h. split_below n r p.0 x h) (λ i h. split_from n r p.0 i) p.1))

-- a guess q that agrees with r below n and has t at n
pub guess : {P : (ℕ → Monotype) → Monotype → Type 0} (n : ℕ) (E : List Fact) → FactsBelow n E → ((t : Monotype) → IsLocal n (λ r. P r t)) →
    (r : ℕ → Monotype) → Unifies r E → (t : Monotype) → P r t → (q : ℕ → Monotype) × ((x : ℕ) → x < n → q x ≡ r x) × Unifies q E × P q (q n) × (q n ≡ t)
guess {P} n E b l r u t p = (q, agree, Unifies-local n E b r q agree u, subst (P q) (sym at_n) (l t r q agree p), at_n)
  where
    q : ℕ → Monotype
    q = split n r (λ i. t)

    agree : (x : ℕ) → x < n → q x ≡ r x
    agree x h = split_below n r (λ i. t) x h

    at_n : q n ≡ t
    at_n = subst (λ m. q m ≡ t) (omega arith) (split_from n r (λ i. t) 0)

-- for some type
pub some_type : {P : (ℕ → Monotype) → Monotype → Type 0} (n : ℕ) (E : List Fact) → FactsBelow n E → ((t : Monotype) → IsLocal n (λ r. P r t)) →
    Answer (λ r. P r (r n)) (suc n) E → Answer (λ r. (t : Monotype) × P r t) n E
some_type {P} n E b l (solved n' E' s) = solved n' E' (record {
  grows = (let g = s.grows in omega arith);
  below = s.below;
  sound = λ r u. (let a = s.sound r u in (a.0, (r n, a.1)));
  complete = λ r u p.
      let g = guess {P = P} n E b l r u p.0 p.1 in
      let a = s.complete g.0 g.2 g.3 in
      (a.0, (λ x h. a.1 x (below_suc x h) ∙ g.1 x h), a.2);
})
  where
    below_suc : (x : ℕ) → x < n → x < suc n
    below_suc x h = omega arith
some_type {P} n E b l (unsolvable never) = unsolvable (λ r u p. let g = guess {P = P} n E b l r u p.0 p.1 in never g.0 g.2 g.3)

-- nothing
pub nothing : (n : ℕ) (E : List Fact) → FactsBelow n E → Answer (λ r. Unit {0}) n E
nothing n E b = solved n E (record { grows = omega arith; below = b; sound = λ r u. (u, tt); complete = λ r u p. (r, (λ x h. refl), u) })

module _ (solve : (E : List Fact) → MostGeneralUnifier E ⊎ ((r : ℕ → Monotype) → Unifies r E → ⊥)) where
  -- two types are equal
  pub equal : (t s : Monotype) (n : ℕ) (E : List Fact) → IsBelow n t → IsBelow n s → FactsBelow n E → Answer (λ r. put r t ≡ put r s) n E
  equal t s n E a b c = elim (solve (Equal t s ∷ E)) [
    | inl m ↦ solved n (Equal t s ∷ E) (record { grows = omega arith; below = ((a, b), c); sound = λ r u. (u.1, u.0); complete = λ r u p. (r, (λ x h. refl), (p, u)) })
    | inr never ↦ unsolvable (λ r u p. never r (p, u))
  ]
