-- Laws of assumptions that bind lists of names.
use Rattle.std.proofs.Common.{◌≡◌, ℕ, List, [], ◌∷◌, refl, sym, ap, ap₂, subst, inl, inr, ◌⊎◌, ⊎_elim}
use Rattle.hm_types.specs.Types.{Var, In, put}
use Rattle.hm_typing.specs.Names.{IsOneOf, Identifier}
use Rattle.hm_typing.specs.Schemes.{Monotype, Scheme, SchemeVariable, Free, Quantified, instance, IsInstance, monomorphic, scheme_put, variable_put, closed}
use Rattle.hm_typing.specs.Assumptions.{Assumptions, bind, assumptions_put, Has, FreeIn, bind_all}
use Rattle.hm_typing.proofs.Types.{put-put}
use Rattle.hm_typing.proofs.Names.{name_discrete}

pub is_one_of : (x : Identifier) (xs : List Identifier) → Dec (IsOneOf x xs)
is_one_of x [] = no (λ e. e)
is_one_of x (y ∷ ys) = Rattle.hm_typing.specs.Decisions.either (name_discrete x y) (is_one_of x ys)

-- what a name has under assumptions that bind a list
abbrev pub Sees : List Identifier → (Identifier → Scheme) → Assumptions → Identifier → Monotype → Type 0
Sees xs s A x t = (IsOneOf x xs × IsInstance t (s x)) ⊎ (¬ (IsOneOf x xs) × Has A x t)

pub Has-Sees : (xs : List Identifier) (s : Identifier → Scheme) (A : Assumptions) (x : Identifier) (t : Monotype) → Has (bind_all xs s A) x t → Sees xs s A x t
Has-Sees [] s A x t h = inr ((λ e. e), h)
Has-Sees (y ∷ ys) s A x t h = go (Has-Sees ys s A x t) (name_discrete x y)
  where
    go : (Has (bind_all ys s A) x t → Sees ys s A x t) → Dec (x ≡ y) → Sees (y ∷ ys) s A x t
    go ih (yes e) = ⊎_elim (λ k. inl (inl e, subst (λ z. IsInstance t (s z)) (sym e) k.1)) (λ k. absurd (k.0 e)) h
    go ih (no n) = ⊎_elim (λ k. absurd (n k.0)) (λ k. ⊎_elim (λ p. inl (inr p.0, p.1)) (λ p. inr ((λ o. ⊎_elim n p.0 o), p.1)) (ih k.1)) h

pub Sees-Has : (xs : List Identifier) (s : Identifier → Scheme) (A : Assumptions) (x : Identifier) (t : Monotype) → Sees xs s A x t → Has (bind_all xs s A) x t
Sees-Has [] s A x t (inl p) = absurd p.0
Sees-Has [] s A x t (inr p) = p.1
Sees-Has (y ∷ ys) s A x t h = go (Sees-Has ys s A x t) (name_discrete x y) h
  where
    go : (Sees ys s A x t → Has (bind_all ys s A) x t) → Dec (x ≡ y) → Sees (y ∷ ys) s A x t → Has (bind_all (y ∷ ys) s A) x t
    go ih (yes e) (inl p) = inl (e, subst (λ z. IsInstance t (s z)) e p.1)
    go ih (yes e) (inr p) = absurd (p.0 (inl e))
    go ih (no n) (inl p) = inr (n, ih (inl (⊎_elim (λ e. absurd (n e)) (λ o. o) p.0, p.1)))
    go ih (no n) (inr p) = inr (n, ih (inr ((λ o. p.0 (inr o)), p.1)))

-- what is seen in one stays seen in the other
pub Has-bind_all : (xs : List Identifier) (s s' : Identifier → Scheme) (A A' : Assumptions) (x : Identifier) → (IsOneOf x xs → (t : Monotype) → IsInstance t (s x) → IsInstance t (s' x)) → (¬ (IsOneOf x xs) → (t : Monotype) → Has A x t → Has A' x t) →
    (t : Monotype) → Has (bind_all xs s A) x t → Has (bind_all xs s' A') x t
Has-bind_all xs s s' A A' x f g t h =
    Sees-Has xs s' A' x t (⊎_elim (λ p. inl (p.0, f p.0 t p.1)) (λ p. inr (p.0, g p.0 t p.1)) (Has-Sees xs s A x t h))

pub bind_all-agree : (xs : List Identifier) (s s' : Identifier → Scheme) (A A' : Assumptions) → ((x : Identifier) → IsOneOf x xs → s x ≡ s' x) → A ≡ A' → bind_all xs s A ≡ bind_all xs s' A'
bind_all-agree [] s s' A A' f e = e
bind_all-agree (x ∷ xs) s s' A A' f e = ap₂ (bind x) (f x (inl refl)) (bind_all-agree xs s s' A A' (λ y o. f y (inr o)) e)

pub assumptions_put-bind_all : (r : ℕ → Monotype) (xs : List Identifier) (s : Identifier → Scheme) (A : Assumptions) → assumptions_put r (bind_all xs s A) ≡ bind_all xs (λ x. scheme_put r (s x)) (assumptions_put r A)
assumptions_put-bind_all r [] s A = refl
assumptions_put-bind_all r (x ∷ xs) s A = ap (bind x (scheme_put r (s x))) (assumptions_put-bind_all r xs s A)

pub FreeIn-bind_all : (xs : List Identifier) (s : Identifier → Scheme) (A : Assumptions) (a : ℕ) → FreeIn a (bind_all xs s A) → ((x : Identifier) × IsOneOf x xs × In (Free a) (s x)) ⊎ FreeIn a A
FreeIn-bind_all [] s A a f = inr f
FreeIn-bind_all (x ∷ xs) s A a (inl i) = inl (x, inl refl, i)
FreeIn-bind_all (x ∷ xs) s A a (inr f) = ⊎_elim (λ p. inl (p.0, inr p.1, p.2)) inr (FreeIn-bind_all xs s A a f)

pub FreeIn-bind_all-in : (xs : List Identifier) (s : Identifier → Scheme) (A : Assumptions) (a : ℕ) (x : Identifier) → IsOneOf x xs → In (Free a) (s x) → FreeIn a (bind_all xs s A)
FreeIn-bind_all-in [] s A a x o i = absurd o
FreeIn-bind_all-in (y ∷ ys) s A a x (inl e) i = inl (subst (λ z. In (Free a) (s z)) e i)
FreeIn-bind_all-in (y ∷ ys) s A a x (inr o) i = inr (FreeIn-bind_all-in ys s A a x o i)

pub FreeIn-bind_all-out : (xs : List Identifier) (s : Identifier → Scheme) (A : Assumptions) (a : ℕ) → FreeIn a A → FreeIn a (bind_all xs s A)
FreeIn-bind_all-out [] s A a f = f
FreeIn-bind_all-out (y ∷ ys) s A a f = inr (FreeIn-bind_all-out ys s A a f)

-- a closed scheme
pub scheme_put_closed : (r : ℕ → Monotype) (t : Monotype) → scheme_put r (closed t) ≡ closed t
scheme_put_closed r t = put-put (variable_put r) (λ i. Var (Quantified i)) t

pub instance_closed : (t : Monotype) (us : ℕ → Monotype) → instance (closed t) us ≡ put us t
instance_closed t us = put-put (Rattle.hm_typing.specs.Schemes.fill Var us) (λ i. Var (Quantified i)) t
