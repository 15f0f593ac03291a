-- Elements of lists, and equality of names.
use Rattle.std.proofs.Common.{◌≡◌, ℕ, zero, suc, List, [], ◌∷◌, ◌++◌, map, Option, None, Some, ◌⊎◌, inl, inr, ⊎_elim, ◌↔◌, refl, sym, ap, ap₂, ◌∙◌, arith, Contains, true, false, cond, subst}
use Rattle.std.proofs.lemmas.Slice.Eq.{bytes_eq-Decides}
use Rattle.std.proofs.lemmas.List.Elements.{Contains-append_left, Contains-append_right, Contains-append_cases}
use Rattle.std.proofs.lemmas.Bool.{cases_Bool}
use Rattle.std.proofs.lemmas.Bool.Decides.{Decides-and}
use Rattle.hm_types.specs.declared.Entity.{Entity}
use Rattle.hm_types.specs.Synonyms.{TypeSynonym}
use Rattle.hm_types.proofs.Equality.{mono_discrete}
use Rattle.hm_syntax.specs.Names.{Identifier}
use Rattle.hm_names.specs.Texts.{same_entity}
use Rattle.hm_names.specs.Described.{first_of}
use native.Mathlib.Decide.{ℕ_discrete}

pub none_in : {X : Type 0} (x : X) → ¬ (Contains [] x)
none_in x h = absurd (omega (arith, h.1))

-- an element of a list is its first, or of the rest
pub cases : {X : Type 0} (x : X) (xs : List X) (y : X) → Contains (x ∷ xs) y → (y ≡ x) ⊎ Contains xs y
cases x xs y (zero, l, e) = inl (sym e)
cases x xs y (suc k, l, e) = inr (k, omega (arith, l), e)

pub first : {X : Type 0} (x : X) (xs : List X) → Contains (x ∷ xs) x
first x xs = (0, omega arith, refl)

pub rest : {X : Type 0} (x : X) (xs : List X) (y : X) → Contains xs y → Contains (x ∷ xs) y
rest x xs y (k, l, e) = (suc k, omega (arith, l), e)

pub text_discrete : (xs ys : List ℕ) → Dec (xs ≡ ys)
text_discrete [] [] = yes refl
text_discrete [] (y ∷ ys) = no (λ e. cc)
text_discrete (x ∷ xs) [] = no (λ e. cc)
text_discrete (x ∷ xs) (y ∷ ys) = go (ℕ_discrete x y) (text_discrete xs ys)
  where
    go : Dec (x ≡ y) → Dec (xs ≡ ys) → Dec ((x ∷ xs) ≡ (y ∷ ys))
    go (yes p) (yes q) = yes (ap₂ (λ a b. a ∷ b) p q)
    go (no p) q = no (λ e. p (cc))
    go (yes p) (no q) = no (λ e. q (cc))

pub contains_dec : (xs : List (List ℕ)) (x : List ℕ) → Dec (Contains xs x)
contains_dec [] x = no (none_in x)
contains_dec (y ∷ ys) x = go (text_discrete x y) (contains_dec ys x)
  where
    go : Dec (x ≡ y) → Dec (Contains ys x) → Dec (Contains (y ∷ ys) x)
    go (yes p) d = yes (subst (λ z. Contains (y ∷ ys) z) (sym p) (first y ys))
    go (no p) (yes d) = yes (rest y ys x d)
    go (no p) (no d) = no (λ c. elim (cases y ys x c) [ inl e ↦ p e | inr o ↦ d o ])

pub option_discrete : (p q : Option (List ℕ)) → Dec (p ≡ q)
option_discrete None None = yes refl
option_discrete None (Some y) = no (λ e. cc)
option_discrete (Some x) None = no (λ e. cc)
option_discrete (Some x) (Some y) = elim (text_discrete x y) [ yes e ↦ yes (ap Some e) | no n ↦ no (λ e. n (cc)) ]

pub entity_discrete : (d e : Entity) → Dec (d ≡ e)
entity_discrete d e = go (text_discrete d.«module» e.«module») (text_discrete d.name e.name)
  where
    go : Dec (d.«module» ≡ e.«module») → Dec (d.name ≡ e.name) → Dec (d ≡ e)
    go (yes p) (yes q) = yes (ap₂ (λ a b. record { «module» = a; name = b }) p q)
    go (no p) q = no (λ h. p (ap (λ z. z.«module») h))
    go (yes p) (no q) = no (λ h. q (ap (λ z. z.name) h))

pub name_discrete : (m n : Identifier) → Dec (m ≡ n)
name_discrete m n = go (option_discrete m.qualifier n.qualifier) (text_discrete m.text n.text) (ℕ_discrete m.line n.line) (ℕ_discrete m.column n.column)
  where
    go : Dec (m.qualifier ≡ n.qualifier) → Dec (m.text ≡ n.text) → Dec (m.line ≡ n.line) → Dec (m.column ≡ n.column) → Dec (m ≡ n)
    go (yes a) (yes b) (yes c) (yes d) = yes (λ i. record { qualifier = a i; text = b i; line = c i; column = d i })
    go (no a) b c d = no (λ h. a (ap (λ z. z.qualifier) h))
    go (yes a) (no b) c d = no (λ h. b (ap (λ z. z.text) h))
    go (yes a) (yes b) (no c) d = no (λ h. c (ap (λ z. z.line) h))
    go (yes a) (yes b) (yes c) (no d) = no (λ h. d (ap (λ z. z.column) h))

synonym_discrete : (s t : TypeSynonym) → Dec (s ≡ t)
synonym_discrete s t = go (ℕ_discrete s.parameters t.parameters) (mono_discrete s.body t.body)
  where
    go : Dec (s.parameters ≡ t.parameters) → Dec (s.body ≡ t.body) → Dec (s ≡ t)
    go (yes p) (yes q) = yes (ap₂ (λ a b. record { parameters = a; body = b }) p q)
    go (no p) q = no (λ h. p (ap (λ z. z.parameters) h))
    go (yes p) (no q) = no (λ h. q (ap (λ z. z.body) h))

pub optional_synonym_discrete : (s t : Option TypeSynonym) → Dec (s ≡ t)
optional_synonym_discrete None None = yes refl
optional_synonym_discrete None (Some y) = no (λ e. cc)
optional_synonym_discrete (Some x) None = no (λ e. cc)
optional_synonym_discrete (Some x) (Some y) = elim (synonym_discrete x y) [ yes e ↦ yes (ap Some e) | no n ↦ no (λ e. n (cc)) ]

-- The first of a list that is of an entity

pub same_entity-Decides : (d e : Entity) → (same_entity d e ≡ true → d ≡ e) × (d ≡ e → same_entity d e ≡ true)
same_entity-Decides d e =
    let both = Decides-and _ _ (bytes_eq-Decides d.«module» e.«module») (bytes_eq-Decides d.name e.name) in
    (λ h. let p = both.0 h in ap₂ (λ a b. record { «module» = a; name = b }) p.0 p.1, λ h. both.1 (ap (λ z. z.«module») h, ap (λ z. z.name) h))

pub first_of-is : {X : Type 0} (of : X → Entity) (e : Entity) (xs : List X) (x : X) → first_of of e xs ≡ Some x → Contains xs x × (e ≡ of x)
first_of-is of e [] x h = absurd (let k : None ≡ Some x = h in cc)
first_of-is of e (y ∷ ys) x h =
    elim (cases_Bool (same_entity e (of y))) [
      | inl t ↦ let s : Some y ≡ Some x = sym (ap (λ b. cond b (Some y) (first_of of e ys)) t) ∙ h in let z : y ≡ x = cc in (subst (λ w. Contains (y ∷ ys) w) z (first y ys), (same_entity-Decides e (of y)).0 t ∙ ap of z)
      | inr f ↦ let s : first_of of e ys ≡ Some x = sym (ap (λ b. cond b (Some y) (first_of of e ys)) f) ∙ h in let r = first_of-is of e ys x s in (rest y ys x r.0, r.1)
    ]

pub first_of-there : {X : Type 0} (of : X → Entity) (e : Entity) (xs : List X) (x : X) → Contains xs x → e ≡ of x → (y : X) × (first_of of e xs ≡ Some y)
first_of-there of e [] x c h = absurd (none_in x c)
first_of-there of e (y ∷ ys) x c h =
    elim (cases_Bool (same_entity e (of y))) [
      | inl t ↦ (y, ap (λ b. cond b (Some y) (first_of of e ys)) t)
      | inr f ↦ elim (cases y ys x c) [
        | inl s ↦ absurd (let k : true ≡ false = sym ((same_entity-Decides e (of y)).1 (h ∙ ap of s)) ∙ f in cc)
        | inr o ↦ let r = first_of-there of e ys x o h in (r.0, ap (λ b. cond b (Some y) (first_of of e ys)) f ∙ r.1)
      ]
    ]

-- Lists in parts

pub first_by : {X : Type 0} (x : X) (xs : List X) (y : X) → y ≡ x → Contains (x ∷ xs) y
first_by x xs y e = subst (λ z. Contains (x ∷ xs) z) (sym e) (first x xs)

-- what a list has whose two parts have these
pub both : {X A B : Type 0} (xs ys : List X) (x : X) → (Contains xs x ↔ A) → (Contains ys x ↔ B) → Contains (xs ++ ys) x ↔ (A ⊎ B)
both xs ys x a b = (
  (λ c. ⊎_elim (λ p. inl (a.0 p)) (λ q. inr (b.0 q)) (Contains-append_cases xs ys x c)),
  (λ h. ⊎_elim (λ p. Contains-append_left xs ys x (a.1 p)) (λ q. Contains-append_right xs ys x (b.1 q)) h),
)

pub three : {X A B C : Type 0} (xs ys zs : List X) (x : X) → (Contains xs x ↔ A) → (Contains ys x ↔ B) → (Contains zs x ↔ C) → Contains ((xs ++ ys) ++ zs) x ↔ (A ⊎ (B ⊎ C))
three xs ys zs x a b c = (
  (λ h. ⊎_elim (λ p. ⊎_elim (λ q. inl (a.0 q)) (λ q. inr (inl (b.0 q))) (Contains-append_cases xs ys x p)) (λ q. inr (inr (c.0 q))) (Contains-append_cases (xs ++ ys) zs x h)),
  (λ h. ⊎_elim (λ p. Contains-append_left (xs ++ ys) zs x (Contains-append_left xs ys x (a.1 p))) (λ s. ⊎_elim (λ p. Contains-append_left (xs ++ ys) zs x (Contains-append_right xs ys x (b.1 p))) (λ q. Contains-append_right (xs ++ ys) zs x (c.1 q)) s) h),
)

pub nothing : {X : Type 0} (x : X) → Contains [] x ↔ ⊥
nothing x = (none_in x, (λ h. absurd h))

pub nothing_by : {X A : Type 0} (x : X) → (A → ⊥) → Contains [] x ↔ A
nothing_by x n = ((λ c. absurd (none_in x c)), (λ a. absurd (n a)))

-- what a mapped list has
pub mapped : {X Y : Type 0} (f : X → Y) (xs : List X) (y : Y) → Contains (map f xs) y ↔ ((x : X) × (Contains xs x × (y ≡ f x)))
mapped f [] y = ((λ c. absurd (none_in y c)), (λ h. absurd (none_in h.0 h.1.0)))
mapped f (x ∷ xs) y = step (mapped f xs y)
  where
    step : (Contains (map f xs) y ↔ ((z : _) × (Contains xs z × (y ≡ f z)))) → Contains (map f (x ∷ xs)) y ↔ ((z : _) × (Contains (x ∷ xs) z × (y ≡ f z)))
    step t = (
      (λ c. ⊎_elim (λ e. (x, (first x xs, e))) (λ o. let h = t.0 o in (h.0, (rest x xs h.0 h.1.0, h.1.1))) (cases (f x) (map f xs) y c)),
      (λ h. ⊎_elim (λ q. first_by (f x) (map f xs) y (h.1.1 ∙ ap f q)) (λ o. rest (f x) (map f xs) y (t.1 (h.0, (o, h.1.1)))) (cases x xs h.0 h.1.0)),
    )
