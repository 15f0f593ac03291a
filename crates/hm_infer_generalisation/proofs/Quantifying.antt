-- What the program generalises to is the closure of the theory.
use Rattle.std.proofs.Common.{◌≡◌, ℕ, suc, ◌+◌, ◌-◌, ◌<◌, get_or, subst, Bool, true, false, cond, nat_lt, ◌==◌, List, [], ◌∷◌, length, refl, sym, ap, ◌∙◌, inl, inr, arith, true≢false}
use Rattle.std.proofs.lemmas.Bool.Decides.{nat_tests}
use Rattle.std.proofs.lemmas.Bool.{eqb-true}
use Rattle.hm_types.specs.Types.{Args, Var, App, done, more, In, InArgs, put, put_all}
use Rattle.hm_unify.specs.WellFormed.{IsWellFormed, AreWellFormed}
use Rattle.hm_types.specs.Monotypes.{Leaf, Mono, var, rigid, list_of}
use Rattle.hm_types.specs.Schemes.{is_among, place}
use Rattle.hm_types.proofs.Substitution.{bool_cases}
use Rattle.hm_typing.specs.Schemes.{Monotype, Free, Quantified}
use Rattle.hm_typing.specs.Assumptions.{Assumptions, FreeIn, assumptions_put}
use Rattle.hm_typing.specs.Decisions.{is_free_in}
use Rattle.hm_typing.specs.Generalisation.{quantified_unless}
use Rattle.hm_typing.proofs.Types.{put-agree, put-put, In-put, put-In}
use Rattle.hm_types.specs.Substitution.{substitute, image}
use Rattle.hm_unify.specs.Unifier.{Equation}
use Rattle.hm_unify.specs.Bindings.{solution}
use Rattle.hm_infer_context.specs.Problems.{number, monotype}
use Rattle.hm_infer_context.specs.Environments.{assumptions, scheme_in, slot}
use Rattle.hm_infer_generalisation.specs.Generalised.{IsClosing, closing}
use Rattle.hm_infer_generalisation.specs.Generalisations.{IsGeneralisation, IsSolution, Keeps, renumbered}
use Rattle.hm_infer_generalisation.proofs.Placed.{place_below}
use Rattle.hm_infer_context.proofs.Leaves.{leaf_at, leaf_at-number, map_at}

number_one : (k l : Leaf) → number k ≡ number l → k ≡ l
number_one k l e = sym (leaf_at-number k) ∙ (ap leaf_at e ∙ leaf_at-number l)

-- Variables that are free in assumptions

pub here_at : (es : List Equation) (m : ℕ → Monotype) → IsSolution es m → (k : Leaf) → m (number k) ≡ map_at (solution es) k
here_at es m sol (var n) = (sol n).0
here_at es m sol (rigid n) = (sol n).1

pub in_monotype : (l : Leaf) (u : Mono) → In l u → In (number l) (monotype u)
in_monotype l u i = put-In (λ k. Var (number k)) l (number l) u i refl

pub of_monotype : (l : Leaf) (u : Mono) → In (number l) (monotype u) → In l u
of_monotype l u i = let h = In-put (λ k. Var (number k)) (number l) u i in subst (λ k. In k u) (sym (number_one l h.0 h.2)) h.1

-- Places

at_place : (n : ℕ) (xs : List ℕ) → is_among n xs ≡ true → get_or xs (place n xs) 0 ≡ n
at_place n [] h = absurd (cc)
at_place n (x ∷ xs) h =
    elim (bool_cases (n == x)) [
      | inl same ↦ rw same (sym (eqb-true n x same))
      | inr other ↦
          let rest : get_or xs (place n xs) 0 ≡ n = at_place n xs (rw other at h) in
          let e : 1 + place n xs ≡ suc (place n xs) = omega arith in
          rw other (ap (λ k. get_or (x ∷ xs) k 0) e ∙ rest)
    ]

-- The scheme

slot_at : List ℕ → List ℕ → Leaf → ℕ
slot_at xs ys (var n) = place n xs
slot_at xs ys (rigid n) = place n ys + length xs

from_slot : List ℕ → List ℕ → ℕ → ℕ
from_slot xs ys i = cond (nat_lt i (length xs)) (number (var (get_or xs i 0))) (number (rigid (get_or ys (i - length xs) 0)))

has_slot : (kept : Leaf → Bool) (t body : Mono) (q : ℕ) (c : IsClosing kept t q body) (l : Leaf) → In l t → (slot_at c.plain c.rigid l < q) × (from_slot c.plain c.rigid (slot_at c.plain c.rigid l) ≡ number l)
unfolding slot_at from_slot
has_slot kept t body q c (var n) i =
    let a = c.plain_slots n i in
    let b = place_below n c.plain a in
    let m = c.many in
    let e : nat_lt (place n c.plain) (length c.plain) ≡ true = grind (arith, nat_tests) in
    (omega arith, ap (λ z. cond z (number (var (get_or c.plain (place n c.plain) 0))) (number (rigid (get_or c.rigid (place n c.plain - length c.plain) 0)))) e ∙ ap (λ z. number (var z)) (at_place n c.plain a))
has_slot kept t body q c (rigid n) i =
    let a = c.rigid_slots n i in
    let b = place_below n c.rigid a in
    let m = c.many in
    let k = place n c.rigid + length c.plain in
    let e : nat_lt k (length c.plain) ≡ false = grind (arith, nat_tests) in
    let d : k - length c.plain ≡ place n c.rigid = omega arith in
    (omega arith, ap (λ z. cond z (number (var (get_or c.plain k 0))) (number (rigid (get_or c.rigid (k - length c.plain) 0)))) e ∙ (ap (λ z. number (rigid (get_or c.rigid z 0))) d ∙ ap (λ z. number (rigid z)) (at_place n c.rigid a)))

closing_kept : (kept : Leaf → Bool) (q : ℕ) (xs ys : List ℕ) (l : Leaf) → kept l ≡ true → slot q (closing kept q xs ys l) ≡ Free (number l)
closing_kept kept q xs ys (var n) h =
    let t : nat_lt (n + q) q ≡ false = grind (arith, nat_tests) in
    let d : (n + q) - q ≡ n = omega arith in
    ap (λ b. slot q (cond b (var (n + q)) (var (place n xs)))) h ∙ (ap (λ b. cond b (Quantified (n + q)) (Free (number (var ((n + q) - q))))) t ∙ ap (λ k. Free (number (var k))) d)
closing_kept kept q xs ys (rigid n) h =
    let t : nat_lt (n + q) q ≡ false = grind (arith, nat_tests) in
    let d : (n + q) - q ≡ n = omega arith in
    ap (λ b. slot q (cond b (rigid (n + q)) (var (place n ys + length xs)))) h ∙ (ap (λ b. cond b (Quantified (n + q)) (Free (number (rigid ((n + q) - q))))) t ∙ ap (λ k. Free (number (rigid k))) d)

slot_below : (q k : ℕ) → k < q → slot q (var k) ≡ Quantified k
slot_below q k h = let t : nat_lt k q ≡ true = grind (arith, nat_tests) in ap (λ b. cond b (Quantified k) (Free (number (var (k - q))))) t

closing_slot : (kept : Leaf → Bool) (q : ℕ) (xs ys : List ℕ) (l : Leaf) → kept l ≡ false → slot_at xs ys l < q → slot q (closing kept q xs ys l) ≡ Quantified (slot_at xs ys l)
unfolding slot_at
closing_slot kept q xs ys (var n) h b = ap (λ z. slot q (cond z (var (n + q)) (var (place n xs)))) h ∙ slot_below q (place n xs) b
closing_slot kept q xs ys (rigid n) h b = ap (λ z. slot q (cond z (rigid (n + q)) (var (place n ys + length xs)))) h ∙ slot_below q (place n ys + length xs) b

-- what is put for a type's variables
solved_type : (es : List Equation) (m : ℕ → Monotype) → IsSolution es m → (t : Mono) → put m (monotype t) ≡ monotype (substitute (solution es) t)
solved_type es m sol t = put-put m (λ l. Var (number l)) t ∙ (put-agree _ _ t (λ l i. at l) ∙ sym (put-put (λ l. Var (number l)) (image (solution es)) t))
  where
    at : (l : Leaf) → m (number l) ≡ monotype (image (solution es) l)
    at (var n) = (sol n).0
    at (rigid n) = (sol n).1

closed_at : (kept : Leaf → Bool) (A : Assumptions) (t body : Mono) (q : ℕ) (c : IsClosing kept t q body) → Keeps kept t A → (l : Leaf) → In l t → (b : Bool) → kept l ≡ b → (d : Dec (FreeIn (number l) A)) →
    slot q (closing kept q c.plain c.rigid l) ≡ slot q (closing kept q c.plain c.rigid l) → Var (slot q (closing kept q c.plain c.rigid l)) ≡ renumbered (λ a. slot_at c.plain c.rigid (leaf_at a)) (quantified_unless d (number l))
closed_at kept A t body q c k l i true e (yes f) r = ap Var (closing_kept kept q c.plain c.rigid l e)
closed_at kept A t body q c k l i true e (no g) r = absurd (g ((k l i).0 e))
closed_at kept A t body q c k l i false e (yes f) r = absurd (true≢false (sym ((k l i).1 f) ∙ e))
closed_at kept A t body q c k l i false e (no g) r =
    ap Var (closing_slot kept q c.plain c.rigid l e (has_slot kept t body q c l i).0) ∙ ap (λ z. Var (Quantified (slot_at c.plain c.rigid z))) (sym (leaf_at-number l))

closed_type : (kept : Leaf → Bool) (A : Assumptions) (t body : Mono) (q : ℕ) → IsClosing kept t q body → Keeps kept t A → IsGeneralisation A (monotype t) (scheme_in (record { quantified = q; body = body }))
closed_type kept A t body q c k = record {
  slots = λ a. slot_at c.plain c.rigid (leaf_at a);
  back = from_slot c.plain c.rigid;
  whole =
      ap (put (λ l. Var (slot q l))) c.whole ∙ (put-put (λ l. Var (slot q l)) (λ l. Var (closing kept q c.plain c.rigid l)) t ∙
      (put-agree _ _ t (λ l i. closed_at kept A t body q c k l i (kept l) refl (is_free_in (number l) A) refl) ∙
      sym (ap (put (renumbered (λ a. slot_at c.plain c.rigid (leaf_at a)))) (put-put (λ a. Var (quantified_unless (is_free_in a A) a)) (λ l. Var (number l)) t) ∙
      put-put (renumbered (λ a. slot_at c.plain c.rigid (leaf_at a))) (λ l. Var (quantified_unless (is_free_in (number l) A) (number l))) t)));
  undone = λ a i n.
      let h = In-put (λ l. Var (number l)) a t i in
      let e : leaf_at a ≡ h.0 = ap leaf_at h.2 ∙ leaf_at-number h.0 in
      ap (λ z. from_slot c.plain c.rigid (slot_at c.plain c.rigid z)) e ∙ ((has_slot kept t body q c h.0 h.1).1 ∙ sym h.2);
}

pub generalised : (es : List Equation) (kept : Leaf → Bool) (t body : Mono) (q : ℕ) → IsClosing kept (substitute (solution es) t) q body → (A : Assumptions) (m : ℕ → Monotype) → IsSolution es m → Keeps kept (substitute (solution es) t) (assumptions_put m A) →
    IsGeneralisation (assumptions_put m A) (put m (monotype t)) (scheme_in (record { quantified = q; body = body }))
generalised es kept t body q c A m sol k =
    subst (λ u. IsGeneralisation (assumptions_put m A) u (scheme_in (record { quantified = q; body = body }))) (sym (solved_type es m sol t)) (closed_type kept (assumptions_put m A) (substitute (solution es) t) body q c k)

-- The body is well-formed

row_length : (f : Leaf → Leaf) (ts : Args Leaf) → length (list_of (put_all (λ l. Var (f l)) ts)) ≡ length (list_of ts)
row_length f done = refl
row_length f (more t ts) = ap suc (row_length f ts)

mutual
  put_given : (g j : ℕ) (f : Leaf → Leaf) (t : Mono) → ((l : Leaf) → In l t → IsWellFormed g (Var l) → IsWellFormed j (Var (f l))) → IsWellFormed g t → IsWellFormed j (put (λ l. Var (f l)) t)
  put_given g j f (Var l) h w = h l refl w
  put_given g j f (App x ts) h w = (rw (row_length f ts) w.0, put_all_given g j f ts h w.1)

  put_all_given : (g j : ℕ) (f : Leaf → Leaf) (ts : Args Leaf) → ((l : Leaf) → InArgs l ts → IsWellFormed g (Var l) → IsWellFormed j (Var (f l))) → AreWellFormed g ts → AreWellFormed j (put_all (λ l. Var (f l)) ts)
  put_all_given g j f done h w = tt
  put_all_given g j f (more t ts) h w = (put_given g j f t (λ l i. h l (inl i)) w.0, put_all_given g j f ts (λ l i. h l (inr i)) w.1)

closing_given : (kept : Leaf → Bool) (q : ℕ) (xs ys : List ℕ) (g : ℕ) (l : Leaf) → slot_at xs ys l < q → IsWellFormed g (Var l) → IsWellFormed (q + g) (Var (closing kept q xs ys l))
unfolding slot_at
closing_given kept q xs ys g (var n) b w = at (kept (var n))
  where
    at : (z : Bool) → IsWellFormed (q + g) (Var (cond z (var (n + q)) (var (place n xs))))
    at true = let h : n < g = w in omega arith
    at false = let h : place n xs < q = b in omega arith
closing_given kept q xs ys g (rigid n) b w = at (kept (rigid n))
  where
    at : (z : Bool) → IsWellFormed (q + g) (Var (cond z (rigid (n + q)) (var (place n ys + length xs))))
    at true = let h : n < g = w in omega arith
    at false = let h : place n ys + length xs < q = b in omega arith

pub closing_well_formed : (kept : Leaf → Bool) (t body : Mono) (q g : ℕ) → IsClosing kept t q body → IsWellFormed g t → IsWellFormed (q + g) body
closing_well_formed kept t body q g c w =
    subst (IsWellFormed (q + g)) (sym c.whole) (put_given g (q + g) (closing kept q c.plain c.rigid) t (λ l i h. closing_given kept q c.plain c.rigid g l (has_slot kept t body q c l i).0 h) w)
