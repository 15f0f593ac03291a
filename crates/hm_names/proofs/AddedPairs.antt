-- Lists of pairs to which others are added.
use Rattle.std.proofs.Common.{◌≡◌, ℕ, ◌+◌, ◌<◌, ◌≤◌, List, [], ◌∷◌, ◌++◌, ◌⊎◌, inl, inr, ⊎_elim, sym, ap, ◌∙◌, subst, arith, Contains, length, take, get_or}
use Rattle.std.proofs.lemmas.List.{take_more, take_all}
use Rattle.std.proofs.lemmas.List.Elements.{Contains-push, Contains-push_cases, Contains-append_left}
use Rattle.hm_names.specs.Bindings.{Adds}

pub adds_none : {Y : Type 0} (old : List Y) (Q : Y → Type 0) → ((p : Y) → ¬ Q p) → Adds old old Q
adds_none old Q none p = (λ h. inl h, λ h. ⊎_elim (λ b. b) (λ q. absurd (none p q)) h)

pub adds_then : {Y : Type 0} (old mid new : List Y) (Q R : Y → Type 0) → Adds old mid Q → Adds mid new R → Adds old new (λ p. Q p ⊎ R p)
adds_then old mid new Q R a b p = (
  (λ h. ⊎_elim (λ m. ⊎_elim inl (λ q. inr (inl q)) ((a p).0 m)) (λ r. inr (inr r)) ((b p).0 h)),
  (λ h. ⊎_elim (λ o. (b p).1 (inl ((a p).1 (inl o)))) (λ s. ⊎_elim (λ q. (b p).1 (inl ((a p).1 (inr q)))) (λ r. (b p).1 (inr r)) s) h),
)

pub adds_like : {Y : Type 0} (old new : List Y) (Q R : Y → Type 0) → ((p : Y) → Q p → R p) → ((p : Y) → R p → Q p) → Adds old new Q → Adds old new R
adds_like old new Q R there back a p = (λ h. ⊎_elim inl (λ q. inr (there p q)) ((a p).0 h), λ h. ⊎_elim (λ o. (a p).1 (inl o)) (λ r. (a p).1 (inr (back p r))) h)

pub adds_push : {Y : Type 0} (old new : List Y) (x : Y) → new ≡ old ++ x ∷ [] → Adds old new (λ p. x ≡ p)
adds_push old new x is p = (
  (λ h. Contains-push_cases old x p (subst (λ l. Contains l p) is h)),
  (λ h. subst (λ l. Contains l p) (sym is) (⊎_elim (λ o. Contains-append_left old (x ∷ []) p o) (λ e. subst (λ q. Contains (old ++ x ∷ []) q) e (Contains-push old x)) h)),
)

-- what is added for each element of a list
module _ {X Y : Type 0} (P : X → Y → Type 0) where
  abbrev pub ForEach : List X → Y → Type 0
  ForEach xs p = (x : X) × (Contains xs x × P x p)

  pub for_none : (old : List Y) (xs : List X) → Adds old old (ForEach (take 0 xs))
  for_none old xs = adds_none old (ForEach (take 0 xs)) (λ p (x, (c, q)). no_element xs x c)
    where
      no_element : (xs : List X) (x : X) → Contains (take 0 xs) x → ⊥
      no_element xs x (k, inside, is) = absurd (none xs k inside)
        where
          none : (xs : List X) (k : ℕ) → k < length (take 0 xs) → ⊥
          none [] k h = omega arith
          none (y ∷ ys) k h = omega arith

  pub for_more : (old mid new : List Y) (xs : List X) (i : ℕ) (x : X) → i < length xs → x ≡ get_or xs i x → Adds old mid (ForEach (take i xs)) → Adds mid new (P x) → Adds old new (ForEach (take (i + 1) xs))
  for_more old mid new xs i x inside is a b =
      let more : take (i + 1) xs ≡ take i xs ++ x ∷ [] = take_more xs i x inside ∙ ap (λ y. take i xs ++ y ∷ []) (sym is) in
      adds_like old new (λ p. ForEach (take i xs) p ⊎ P x p) (ForEach (take (i + 1) xs))
      (λ p h. ⊎_elim (λ (y, (c, q)). (y, (subst (λ l. Contains l y) (sym more) (Contains-append_left (take i xs) (x ∷ []) y c), q))) (λ q. (x, (subst (λ l. Contains l x) (sym more) (Contains-push (take i xs) x), q))) h)
      (λ p (y, (c, q)). ⊎_elim (λ before. inl (y, (before, q))) (λ last. inr (subst (λ z. P z p) (sym last) q)) (Contains-push_cases (take i xs) x y (subst (λ l. Contains l y) more c)))
      (adds_then old mid new (ForEach (take i xs)) (P x) a b)

  pub for_all : (old new : List Y) (xs : List X) (i : ℕ) → length xs ≤ i → Adds old new (ForEach (take i xs)) → Adds old new (ForEach xs)
  for_all old new xs i past a = subst (λ l. Adds old new (ForEach l)) (take_all i xs past) a

-- what is added only where a fact holds
pub adds_where : {Y : Type 0} (old new : List Y) (F : Type 0) (Q : Y → Type 0) → F → Adds old new Q → Adds old new (λ p. F × Q p)
adds_where old new F Q f a = adds_like old new Q (λ p. F × Q p) (λ p q. (f, q)) (λ p h. h.1) a

pub adds_where_not : {Y : Type 0} (old : List Y) (F : Type 0) (Q : Y → Type 0) → ¬ F → Adds old old (λ p. F × Q p)
adds_where_not old F Q n = adds_none old (λ p. F × Q p) (λ p h. n h.0)
