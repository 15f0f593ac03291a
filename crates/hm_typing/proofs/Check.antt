-- Questions of names and of types.
use Rattle.std.proofs.Common.{◌≡◌, ℕ, suc, List, refl, sym, ap, ◌∙◌, subst, inl, inr, ◌⊎◌, ⊎_elim, ◌<◌, ◌≤◌, ◌+◌, max, arith}
use Rattle.hm_types.specs.Types.{Args, App, done, more, Var, In, InArgs, put}
use Rattle.hm_typing.specs.Names.{Identifier}
use Rattle.hm_typing.specs.Schemes.{Monotype, Scheme, SchemeVariable, Free, Quantified, arrow, fill, instance, IsInstance, scheme_put, IsAtMostAsGeneral}
use Rattle.hm_typing.specs.Assumptions.{Assumptions, empty, bind, assumptions_put, Has, FreeIn}
use Rattle.hm_typing.specs.Decisions.{is_free_in, IsFree}
use Rattle.hm_typing.specs.Generalisation.{quantified_unless, quantify}
use Rattle.hm_typing.specs.Problems.{Fact, Unifies, IsBelow, FactsBelow, MostGeneralUnifier, Answer, unsolvable}
use Rattle.hm_typing.proofs.Types.{put-agree, put-put, In-put}
use Rattle.hm_typing.proofs.SchemeLaws.{split, split_below, instance_put, put_instance, assumptions_put-agree, assumptions_put_put, AssumptionsBelow, SchemeBelow, FreeIn_put, assumptions_put_FreeIn, put_fixed, put_split}
use Rattle.hm_typing.proofs.Names.{name_discrete}
use Rattle.hm_typing.proofs.Solve.{FactsBelow-more, put-below, same, some_types, equal}

-- the quantified slots of a scheme are below a number
mutual
  pub width : (σ : Scheme) → (k : ℕ) × ((i : ℕ) → In (Quantified i) σ → i < k)
  width (Var (Free b)) = (0, λ i e. absurd (subst IsFree (sym e) tt))
  width (Var (Quantified j)) = (suc j, λ i e. subst (λ v. i < suc (index_of v)) e (omega arith))
    where
      index_of : SchemeVariable → ℕ
      index_of (Free a) = 0
      index_of (Quantified k) = k
  width (App h ts) = widths ts

  pub widths : (ts : Args SchemeVariable) → (k : ℕ) × ((i : ℕ) → InArgs (Quantified i) ts → i < k)
  widths done = (0, λ i e. absurd e)
  widths (more t ts) =
      let p = width t in
      let q = widths ts in
      (max p.0 q.0, λ a s. elim s [ inl i ↦ (let h = p.1 a i in omega arith) | inr i ↦ (let h = q.1 a i in omega arith) ])

-- the scheme of a name
abbrev pub Found : Assumptions → Identifier → Type 0
Found A x =
    ((σ : Scheme) × ((a : ℕ) → In (Free a) σ → FreeIn a A) × ((r : ℕ → Monotype) (u : Monotype) → Has (assumptions_put r A) x u → IsInstance u (scheme_put r σ)) × ((r : ℕ → Monotype) (u : Monotype) → IsInstance u (scheme_put r σ) → Has (assumptions_put r A) x u))
    ⊎ ((r : ℕ → Monotype) (u : Monotype) → Has (assumptions_put r A) x u → ⊥)

pub found : (A : Assumptions) (x : Identifier) → Found A x
found empty x = inr (λ r u h. h)
found (bind y σ A) x = go (name_discrete x y) (found A x)
  where
    go : Dec (x ≡ y) → Found A x → Found (bind y σ A) x
    go (yes e) f = inl (σ, (λ a i. inl i), (λ r u h. ⊎_elim (λ k. k.1) (λ k. absurd (k.0 e)) h), (λ r u i. inl (e, i)))
    go (no n) (inl f) = inl (f.0, (λ a i. inr (f.1 a i)), (λ r u h. ⊎_elim (λ k. absurd (n k.0)) (λ k. f.2 r u k.1) h), (λ r u i. inr (n, f.3 r u i)))
    go (no n) (inr f) = inr (λ r u h. ⊎_elim (λ k. n k.0) (λ k. f r u k.1) h)

-- an instance with fresh variables has variables below n + k
pub slot_below : (n k : ℕ) (a : ℕ) (v : SchemeVariable) → ((b : ℕ) → Free b ≡ v → b < n) → ((i : ℕ) → Quantified i ≡ v → i < k) → In a (fill Var (λ i. Var (n + i)) v) → a < n + k
slot_below n k a (Free b) f g i = let h = f b refl in subst (λ c. c < n + k) (sym i) (omega arith)
slot_below n k a (Quantified j) f g i = let h = g j refl in subst (λ c. c < n + k) (sym i) (omega arith)

pub instance_below : (n k : ℕ) (σ : Scheme) → SchemeBelow n σ → ((i : ℕ) → In (Quantified i) σ → i < k) → IsBelow (n + k) (instance σ (λ i. Var (n + i)))
instance_below n k σ b w a i =
    let h = In-put (fill Var (λ j. Var (n + j))) a σ i in
    slot_below n k a h.0 (λ c e. b c (subst (λ v. In v σ) (sym e) h.1)) (λ c e. w c (subst (λ v. In v σ) (sym e) h.1)) h.2

-- agreement of two fillings
pub fill-agree-below : (n k : ℕ) (r q us vs : ℕ → Monotype) (σ : Scheme) → SchemeBelow n σ → ((i : ℕ) → In (Quantified i) σ → i < k) →
    ((x : ℕ) → x < n → q x ≡ r x) → ((i : ℕ) → i < k → vs i ≡ us i) → put (fill r us) σ ≡ put (fill q vs) σ
fill-agree-below n k r q us vs σ b w f g = put-agree _ _ σ at
  where
    at : (v : SchemeVariable) → In v σ → fill r us v ≡ fill q vs v
    at (Free a) i = sym (f a (b a i))
    at (Quantified j) i = sym (g j (w j i))

-- a scheme's quantified variables, with the variables of t under A instantiated
abbrev pub open_with : {P : Type 0} → Dec P → (ℕ → Monotype) → (ℕ → Monotype) → ℕ → Monotype
open_with (yes p) r us a = r a
open_with (no n) r us a = us a

pub open_with-free : {P : Type 0} (d : Dec P) (r us : ℕ → Monotype) (a : ℕ) → P → open_with d r us a ≡ r a
open_with-free (yes p) r us a q = refl
open_with-free (no n) r us a q = absurd (n q)

pub fill_open : {P : Type 0} (d : Dec P) (r us : ℕ → Monotype) (a : ℕ) → fill r us (quantified_unless d a) ≡ open_with d r us a
fill_open (yes p) r us a = refl
fill_open (no n) r us a = refl

pub quantified_put : (A : Assumptions) (t : Monotype) (r us : ℕ → Monotype) → instance (scheme_put r (quantify A t)) us ≡ put (λ a. open_with (is_free_in a A) r us a) t
quantified_put A t r us = instance_put r us (quantify A t) ∙ (put-put (fill r us) (λ a. Var (quantified_unless (is_free_in a A) a)) t ∙ put-agree _ _ t (λ a i. fill_open (is_free_in a A) r us a))

-- a most general unifier leaves the assumptions as they are under every other
pub assumptions_put_unifier : (A : Assumptions) (E : List Fact) (m : MostGeneralUnifier E) (r : ℕ → Monotype) → Unifies r E → assumptions_put r (assumptions_put m.map A) ≡ assumptions_put r A
assumptions_put_unifier A E m r u = assumptions_put_put r m.map A ∙ assumptions_put-agree _ _ A (λ a f. m.most r u a)

pub assumptions_put-below : (n : ℕ) (A : Assumptions) (m : ℕ → Monotype) → AssumptionsBelow n A → ((x : ℕ) → x < n → IsBelow n (m x)) → AssumptionsBelow n (assumptions_put m A)
assumptions_put-below n A m b k a f = let h = assumptions_put_FreeIn m a A f in k h.0 (b h.0 h.1) a h.2

pub below_more : (n m : ℕ) (A : Assumptions) → n ≤ m → AssumptionsBelow n A → AssumptionsBelow m A
below_more n m A l b a f = let h = b a f in omega arith

pub IsBelow-more : (n m : ℕ) (t : Monotype) → n ≤ m → IsBelow n t → IsBelow m t
IsBelow-more n m t l b a i = let h = b a i in omega arith

pub arrow-below : (n : ℕ) (t u : Monotype) → IsBelow n t → IsBelow n u → IsBelow n (arrow t u)
arrow-below n t u b c a (inl i) = b a i
arrow-below n t u b c a (inr (inl i)) = c a i
arrow-below n t u b c a (inr (inr i)) = absurd i

pub Var-below : (n x : ℕ) → x < n → IsBelow n (Var x)
Var-below n x h a i = subst (λ c. c < n) (sym i) h

-- and it covers every scheme that can be guessed
pub let-covers : (A : Assumptions) (a : ℕ) (E : List Fact) (m : MostGeneralUnifier E) (q : ℕ → Monotype) → Unifies q E → (σ : Scheme) (n : ℕ) → SchemeBelow n σ → AssumptionsBelow n (assumptions_put q A) →
    q a ≡ instance σ (λ i. Var (n + i)) → IsAtMostAsGeneral σ (scheme_put q (quantify (assumptions_put m.map A) (m.map a)))
let-covers A a E m q u σ n b c e t i =
    (ws, i.1 ∙ (sym (put_split n Var i.0 σ b) ∙ (ap (put w) (sym e) ∙ (ap (put w) (sym (m.most q u a)) ∙ (put-put w q (m.map a) ∙ (put-agree _ _ (m.map a) (λ y j. at y (is_free_in y A1)) ∙ sym (quantified_put A1 (m.map a) q ws)))))))
  where
    A1 : Assumptions
    A1 = assumptions_put m.map A

    w : ℕ → Monotype
    w = split n Var i.0

    ws : ℕ → Monotype
    ws y = put w (q y)

    at : (y : ℕ) (d : Dec (FreeIn y A1)) → put w (q y) ≡ open_with d q ws y
    at y (no k) = refl
    at y (yes f) = put_fixed w (q y) (λ z j. split_below n Var i.0 z (c z (subst (FreeIn z) (assumptions_put_unifier A E m q u) (FreeIn_put q y z A1 f j))))

module _ (solve : (E : List Fact) → MostGeneralUnifier E ⊎ ((r : ℕ → Monotype) → Unifies r E → ⊥)) where
  pub check_name : (A : Assumptions) (x : Identifier) (t : Monotype) (n : ℕ) (E : List Fact) → AssumptionsBelow n A → IsBelow n t → FactsBelow n E → Found A x → Answer (λ r. Has (assumptions_put r A) x (put r t)) n E
  check_name A x t n E b c d (inr never) = unsolvable (λ r u p. never r (put r t) p)
  check_name A x t n E b c d (inl (σ, free, back, forth)) =
      let w = width σ in
      let fresh = instance σ (λ i. Var (n + i)) in
      let below : SchemeBelow n σ = λ a i. b a (free a i) in
      let turn : (r : ℕ → Monotype) → put r fresh ≡ instance (scheme_put r σ) (λ i. r (n + i)) = λ r. put_instance r (λ i. Var (n + i)) σ ∙ sym (instance_put r _ σ) in
      same n E (λ r p. forth r (put r t) p) (λ r p. back r (put r t) p)
      (some_types {P = λ r us. put r t ≡ instance (scheme_put r σ) us} w.0 n E d
      (λ r q us vs f g e. sym (put-below n r q t f c) ∙ (e ∙ (instance_put r us σ ∙ (fill-agree-below n w.0 r q us vs σ below w.1 f g ∙ sym (instance_put q vs σ)))))
      (same (n + w.0) E (λ r e. e ∙ turn r) (λ r e. e ∙ sym (turn r))
      (equal solve t fresh (n + w.0) E (IsBelow-more n (n + w.0) t (omega arith) c) (instance_below n w.0 σ below w.1) (FactsBelow-more n (n + w.0) E (omega arith) d))))
