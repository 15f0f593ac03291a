-- Laws of schemes and assumptions.
use Rattle.std.proofs.Common.{◌≡◌, ℕ, suc, false, cond, nat_lt, inl, inr, refl, sym, ap, ap₂, ◌∙◌, subst, ◌<◌, ◌+◌, ◌-◌, max, arith}
use Rattle.std.proofs.lemmas.Bool.Decides.{nat_tests}
use Rattle.hm_typing.specs.Names.{Identifier}
use Rattle.hm_typing.specs.Schemes.{Monotype, Scheme, SchemeVariable, Free, Quantified, fill, instance, monomorphic, variable_put, scheme_put}
use Rattle.hm_typing.specs.Assumptions.{Assumptions, empty, bind, assumptions_put, Has, FreeIn}
use Rattle.hm_typing.specs.Decisions.{is_free_in, number_or, IsFree}
use Rattle.hm_typing.specs.Generalisation.{quantified_unless, quantify}
use Rattle.hm_typing.proofs.Types.{put-agree, put-put, put-Var, In-put, put-In}
use Rattle.hm_types.specs.Types.{Args, Var, App, done, more, In, InArgs, put}

-- r below n, and us from there on
abbrev pub split : ℕ → (ℕ → Monotype) → (ℕ → Monotype) → ℕ → Monotype
split n r us x = cond (nat_lt x n) (r x) (us (x - n))

pub split_below : (n : ℕ) (r us : ℕ → Monotype) (x : ℕ) → x < n → split n r us x ≡ r x
split_below n r us x h = grind (arith, nat_tests)

pub split_from : (n : ℕ) (r us : ℕ → Monotype) (i : ℕ) → split n r us (n + i) ≡ us i
split_from n r us i =
    let e : nat_lt (n + i) n ≡ false = grind (arith, nat_tests) in
    let d : (n + i) - n ≡ i = omega arith in
    rw (e, d)

-- an instance of a scheme with a substitution in it
pub fill_put : (r us : ℕ → Monotype) (v : SchemeVariable) → put (fill Var us) (variable_put r v) ≡ fill r us v
fill_put r us (Free x) = put-put (fill Var us) (λ y. Var (Free y)) (r x) ∙ put-Var (r x)
fill_put r us (Quantified i) = refl

pub instance_put : (r us : ℕ → Monotype) (σ : Scheme) → instance (scheme_put r σ) us ≡ put (fill r us) σ
instance_put r us σ = put-put (fill Var us) (variable_put r) σ ∙ put-agree _ _ σ (λ v i. fill_put r us v)

-- a substitution in an instance
pub put_fill : (q r us : ℕ → Monotype) (v : SchemeVariable) → put q (fill r us v) ≡ fill (λ x. put q (r x)) (λ i. put q (us i)) v
put_fill q r us (Free x) = refl
put_fill q r us (Quantified i) = refl

pub put_instance : (q us : ℕ → Monotype) (σ : Scheme) → put q (instance σ us) ≡ put (fill q (λ i. put q (us i))) σ
put_instance q us σ = put-put q (fill Var us) σ ∙ put-agree _ _ σ (λ v i. put_fill q Var us v)

pub fill-agree : (r r' us us' : ℕ → Monotype) (σ : Scheme) → ((a : ℕ) → In (Free a) σ → r a ≡ r' a) → ((i : ℕ) → us i ≡ us' i) → put (fill r us) σ ≡ put (fill r' us') σ
fill-agree r r' us us' σ h k = put-agree _ _ σ at
  where
    at : (v : SchemeVariable) → In v σ → fill r us v ≡ fill r' us' v
    at (Free a) i = h a i
    at (Quantified j) i = k j

pub instance_mono : (t : Monotype) (us : ℕ → Monotype) → instance (monomorphic t) us ≡ t
instance_mono t us = put-put (fill Var us) (λ x. Var (Free x)) t ∙ put-Var t

pub scheme_put_mono : (r : ℕ → Monotype) (t : Monotype) → scheme_put r (monomorphic t) ≡ monomorphic (put r t)
scheme_put_mono r t = put-put (variable_put r) (λ x. Var (Free x)) t ∙ sym (put-put (λ x. Var (Free x)) r t)

pub In_mono : (a : ℕ) (t : Monotype) → In (Free a) (monomorphic t) → In a t
In_mono a t i = let h = In-put (λ x. Var (Free x)) (Free a) t i in subst (λ b. In b t) (sym (ap (number_or 0) h.2)) h.1

pub slot_put_Var : (v : SchemeVariable) → variable_put Var v ≡ Var v
slot_put_Var (Free a) = refl
slot_put_Var (Quantified i) = refl

pub scheme_put_Var : (σ : Scheme) → scheme_put Var σ ≡ σ
scheme_put_Var σ = put-agree _ _ σ (λ v i. slot_put_Var v) ∙ put-Var σ

pub scheme_put-agree : (r r' : ℕ → Monotype) (σ : Scheme) → ((a : ℕ) → In (Free a) σ → r a ≡ r' a) → scheme_put r σ ≡ scheme_put r' σ
scheme_put-agree r r' σ h = put-agree _ _ σ at
  where
    at : (v : SchemeVariable) → In v σ → variable_put r v ≡ variable_put r' v
    at (Free a) i = ap monomorphic (h a i)
    at (Quantified j) i = refl

pub slot_put_put : (q r : ℕ → Monotype) (v : SchemeVariable) → put (variable_put q) (variable_put r v) ≡ variable_put (λ x. put q (r x)) v
slot_put_put q r (Free a) = scheme_put_mono q (r a)
slot_put_put q r (Quantified i) = refl

pub scheme_put_put : (q r : ℕ → Monotype) (σ : Scheme) → scheme_put q (scheme_put r σ) ≡ scheme_put (λ x. put q (r x)) σ
scheme_put_put q r σ = put-put (variable_put q) (variable_put r) σ ∙ put-agree _ _ σ (λ v i. slot_put_put q r v)

pub assumptions_put_Var : (A : Assumptions) → assumptions_put Var A ≡ A
assumptions_put_Var empty = refl
assumptions_put_Var (bind x σ A) = ap₂ (bind x) (scheme_put_Var σ) (assumptions_put_Var A)

pub assumptions_put-agree : (r r' : ℕ → Monotype) (A : Assumptions) → ((a : ℕ) → FreeIn a A → r a ≡ r' a) → assumptions_put r A ≡ assumptions_put r' A
assumptions_put-agree r r' empty h = refl
assumptions_put-agree r r' (bind x σ A) h = ap₂ (bind x) (scheme_put-agree r r' σ (λ a i. h a (inl i))) (assumptions_put-agree r r' A (λ a i. h a (inr i)))

pub assumptions_put_put : (q r : ℕ → Monotype) (A : Assumptions) → assumptions_put q (assumptions_put r A) ≡ assumptions_put (λ x. put q (r x)) A
assumptions_put_put q r empty = refl
assumptions_put_put q r (bind x σ A) = ap₂ (bind x) (scheme_put_put q r σ) (assumptions_put_put q r A)

-- a bound of the variables
abbrev pub SchemeBelow : ℕ → Scheme → Type 0
SchemeBelow n σ = (a : ℕ) → In (Free a) σ → a < n

abbrev pub AssumptionsBelow : ℕ → Assumptions → Type 0
AssumptionsBelow n A = (a : ℕ) → FreeIn a A → a < n

mutual
  pub scheme_bound : (σ : Scheme) → (n : ℕ) × SchemeBelow n σ
  scheme_bound (Var (Free b)) = (suc b, λ a e. subst (λ v. a < suc (number_or 0 v)) e (omega arith))
  scheme_bound (Var (Quantified i)) = (0, λ a e. absurd (subst IsFree e tt))
  scheme_bound (App h ts) = args_bound ts

  pub args_bound : (ts : Args SchemeVariable) → (n : ℕ) × ((a : ℕ) → InArgs (Free a) ts → a < n)
  args_bound done = (0, λ a e. absurd e)
  args_bound (more t ts) =
      let p = scheme_bound t in
      let q = args_bound ts in
      (max p.0 q.0, λ a s. elim s [ inl i ↦ (let h = p.1 a i in omega arith) | inr i ↦ (let h = q.1 a i in omega arith) ])

pub assumptions_bound : (A : Assumptions) → (n : ℕ) × AssumptionsBelow n A
assumptions_bound empty = (0, λ a e. absurd e)
assumptions_bound (bind x σ A) =
    let p = scheme_bound σ in
    let q = assumptions_bound A in
    (max p.0 q.0, λ a s. elim s [ inl i ↦ (let h = p.1 a i in omega arith) | inr i ↦ (let h = q.1 a i in omega arith) ])

-- what a name has
pub Has_put : (r : ℕ → Monotype) (A : Assumptions) (x : Identifier) (t : Monotype) → Has A x t → Has (assumptions_put r A) x (put r t)
Has_put r empty x t h = absurd h
Has_put r (bind y σ A) x t (inl h) = inl (h.0, ((λ k. put r (h.1.0 k)), ap (put r) h.1.1 ∙ (put_instance r h.1.0 σ ∙ sym (instance_put r _ σ))))
Has_put r (bind y σ A) x t (inr h) = inr (h.0, Has_put r A x t h.1)

-- an instance of what was quantified
pub instance_quantify : (A : Assumptions) (w : ℕ → Monotype) (t : Monotype) → ((a : ℕ) → FreeIn a A → w a ≡ Var a) → instance (quantify A t) w ≡ put w t
instance_quantify A w t h = put-put (fill Var w) (λ a. Var (quantified_unless (is_free_in a A) a)) t ∙ put-agree _ _ t (λ a i. at a (is_free_in a A))
  where
    at : (a : ℕ) (d : Dec (FreeIn a A)) → fill Var w (quantified_unless d a) ≡ w a
    at a (yes f) = sym (h a f)
    at a (no n) = refl

-- the variables of a scheme and of assumptions with a substitution in them
pub In_scheme_put : (r : ℕ → Monotype) (a b : ℕ) (σ : Scheme) → In (Free a) σ → In b (r a) → In (Free b) (scheme_put r σ)
In_scheme_put r a b σ i j = put-In (variable_put r) (Free a) (Free b) σ i (put-In (λ x. Var (Free x)) b (Free b) (r a) j refl)

pub FreeIn_put : (r : ℕ → Monotype) (a b : ℕ) (A : Assumptions) → FreeIn a A → In b (r a) → FreeIn b (assumptions_put r A)
FreeIn_put r a b empty f i = absurd f
FreeIn_put r a b (bind x σ A) (inl f) i = inl (In_scheme_put r a b σ f i)
FreeIn_put r a b (bind x σ A) (inr f) i = inr (FreeIn_put r a b A f i)

pub slot_put_In : (r : ℕ → Monotype) (b : ℕ) (v : SchemeVariable) → In (Free b) (variable_put r v) → (a : ℕ) × (Free a ≡ v) × In b (r a)
slot_put_In r b (Free a) i = (a, refl, In_mono b (r a) i)
slot_put_In r b (Quantified k) i = absurd (subst IsFree i tt)

pub scheme_put_In : (r : ℕ → Monotype) (b : ℕ) (σ : Scheme) → In (Free b) (scheme_put r σ) → (a : ℕ) × In (Free a) σ × In b (r a)
scheme_put_In r b σ i =
    let h = In-put (variable_put r) (Free b) σ i in
    let k = slot_put_In r b h.0 h.2 in
    (k.0, subst (λ v. In v σ) (sym k.1) h.1, k.2)

pub assumptions_put_FreeIn : (r : ℕ → Monotype) (b : ℕ) (A : Assumptions) → FreeIn b (assumptions_put r A) → (a : ℕ) × FreeIn a A × In b (r a)
assumptions_put_FreeIn r b empty f = absurd f
assumptions_put_FreeIn r b (bind x σ A) (inl i) = let h = scheme_put_In r b σ i in (h.0, inl h.1, h.2)
assumptions_put_FreeIn r b (bind x σ A) (inr f) = let h = assumptions_put_FreeIn r b A f in (h.0, inr h.1, h.2)

-- a substitution that leaves the variables of t alone
pub put_fixed : (w : ℕ → Monotype) (t : Monotype) → ((a : ℕ) → In a t → w a ≡ Var a) → put w t ≡ t
put_fixed w t h = put-agree w Var t h ∙ put-Var t

-- the split substitution at n puts us for fresh variables
pub put_split : (n : ℕ) (r us : ℕ → Monotype) (σ : Scheme) → SchemeBelow n σ → put (split n r us) (instance σ (λ i. Var (n + i))) ≡ put (fill r us) σ
put_split n r us σ h = put_instance (split n r us) (λ i. Var (n + i)) σ ∙ fill-agree _ _ _ _ σ (λ a i. split_below n r us a (h a i)) (λ i. split_from n r us i)
