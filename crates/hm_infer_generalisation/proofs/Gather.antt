-- Variables are collected.
use Rattle.std.proofs.Common.{◌≡◌, ℕ, ◌+◌, ◌<◌, ◌≤◌, take, get_or, subst, true, false, ◌||◌, ◌==◌, List, [], ◌∷◌, ◌++◌, length, sym, ap, ◌∙◌, ◌⊎◌, ⊎_elim, ◌↔◌, inl, inr}
use Rattle.std.proofs.lemmas.Bool.{eq-eqb, eqb-true}
use Rattle.std.proofs.lemmas.List.{take_all, length-map}
use Rattle.hm_types.specs.Types.{App as app, In, InArgs}
use Rattle.hm_types.specs.Monotypes.{Leaf, Mono, var, rigid, arguments_of}
use Rattle.hm_types.specs.declared.monotypes.Ty.{Ty}
use Rattle.hm_types.specs.declared.Head.{Head}
use Rattle.hm_types.specs.Shape.{type_of, types_of}
use Rattle.hm_types.specs.Schemes.{is_among}
use Rattle.hm_types.proofs.Quantified.{contains_append}
use Rattle.hm_types.proofs.Substitution.{bool_cases, or_cases, or_left, or_right}
use Rattle.hm_types.proofs.Rows.{types_of_more}
use Rattle.hm_infer_generalisation.specs.declared.collecting.Collected.{Collected}
use Rattle.hm_infer_generalisation.specs.Collected.{Gathers, has_leaf}
use Rattle.hm_infer_generalisation.specs.Places.{with_number}

-- a list with one more number
pub with_number_has : (n m : ℕ) (xs : List ℕ) → (is_among m (with_number n xs) ≡ true) ↔ ((is_among m xs ≡ true) ⊎ (m ≡ n))
with_number_has n m xs =
    elim (bool_cases (is_among n xs)) [
      | inl here ↦ rw here (λ h. inl h, λ h. ⊎_elim (λ k. k) (λ e. subst (λ z. is_among z xs ≡ true) (sym e) here) h)
      | inr absent ↦
          let both : is_among m (xs ++ n ∷ []) ≡ (is_among m xs || is_among m (n ∷ [])) = contains_append m xs (n ∷ []) in
          rw absent (
            λ h. ⊎_elim (λ k. inl k) (λ k. inr (one k)) (or_cases (is_among m xs) (is_among m (n ∷ [])) (sym both ∙ h)),
            λ h. both ∙ ⊎_elim (λ k. or_left (is_among m xs) (is_among m (n ∷ [])) k) (λ e. or_right (is_among m xs) (is_among m (n ∷ [])) (or_left (m == n) false (eq-eqb m n e))) h,
          )
    ]
  where
    one : is_among m (n ∷ []) ≡ true → m ≡ n
    one k = ⊎_elim (λ e. eqb-true m n e) (λ (e : false ≡ true). cc) (or_cases (m == n) false k)

pub gathers_plain : (before after : Collected) (n : ℕ) → after.plain ≡ with_number n before.plain → after.rigid ≡ before.rigid → Gathers (λ l. l ≡ var n) before after
gathers_plain before after n a same = record { has = has }
  where
    number_of : Leaf → ℕ
    number_of (var m) = m
    number_of (rigid m) = m

    IsPlain : Leaf → Type 0
    IsPlain (var m) = Unit {0}
    IsPlain (rigid m) = ⊥

    has : (l : Leaf) → (has_leaf after l ≡ true) ↔ ((has_leaf before l ≡ true) ⊎ (l ≡ var n))
    has (var m) =
        let more = with_number_has n m before.plain in (
          λ h. ⊎_elim (λ k. inl k) (λ e. inr (ap var e)) (more.0 (ap (is_among m) (sym a) ∙ h)),
          λ h. ap (is_among m) a ∙ more.1 (⊎_elim (λ k. inl k) (λ e. inr (ap number_of e)) h),
        )
    has (rigid m) = (λ h. inl (ap (is_among m) (sym same) ∙ h), λ h. ⊎_elim (λ k. ap (is_among m) same ∙ k) (λ e. absurd (subst IsPlain (sym e) tt)) h)

pub gathers_rigid : (before after : Collected) (n : ℕ) → after.rigid ≡ with_number n before.rigid → after.plain ≡ before.plain → Gathers (λ l. l ≡ rigid n) before after
gathers_rigid before after n a same = record { has = has }
  where
    number_of : Leaf → ℕ
    number_of (var m) = m
    number_of (rigid m) = m

    IsRigid : Leaf → Type 0
    IsRigid (var m) = ⊥
    IsRigid (rigid m) = Unit {0}

    has : (l : Leaf) → (has_leaf after l ≡ true) ↔ ((has_leaf before l ≡ true) ⊎ (l ≡ rigid n))
    has (rigid m) =
        let more = with_number_has n m before.rigid in (
          λ h. ⊎_elim (λ k. inl k) (λ e. inr (ap rigid e)) (more.0 (ap (is_among m) (sym a) ∙ h)),
          λ h. ap (is_among m) a ∙ more.1 (⊎_elim (λ k. inl k) (λ e. inr (ap number_of e)) h),
        )
    has (var m) = (λ h. inl (ap (is_among m) (sym same) ∙ h), λ h. ⊎_elim (λ k. ap (is_among m) same ∙ k) (λ e. absurd (subst IsRigid (sym e) tt)) h)

pub gathers_none : {P : Leaf → Type 0} (c : Collected) → ((l : Leaf) → P l → ⊥) → Gathers P c c
gathers_none c never = record { has = λ l. (λ h. inl h, λ h. ⊎_elim (λ k. k) (λ p. absurd (never l p)) h) }

-- two steps, one after the other
pub gathers_both : {P Q R : Leaf → Type 0} (a b c : Collected) → ((l : Leaf) → R l → P l ⊎ Q l) → ((l : Leaf) → P l ⊎ Q l → R l) → Gathers P a b → Gathers Q b c → Gathers R a c
gathers_both a b c there back f g = record {
  has = λ l. (
    λ h. ⊎_elim (λ k. ⊎_elim (λ j. inl j) (λ p. inr (back l (inl p))) ((f.has l).0 k)) (λ q. inr (back l (inr q))) ((g.has l).0 h),
    λ h. ⊎_elim (λ k. (g.has l).1 (inl ((f.has l).1 (inl k)))) (λ r. ⊎_elim (λ p. (g.has l).1 (inl ((f.has l).1 (inr p)))) (λ q. (g.has l).1 (inr q)) (there l r)) h,
  );
}

pub gathers_same : {P Q : Leaf → Type 0} (a b : Collected) → ((l : Leaf) → P l → Q l) → ((l : Leaf) → Q l → P l) → Gathers P a b → Gathers Q a b
gathers_same a b there back f = record { has = λ l. (λ h. ⊎_elim (λ k. inl k) (λ p. inr (there l p)) ((f.has l).0 h), λ h. (f.has l).1 (⊎_elim (λ k. inl k) (λ q. inr (back l q)) h)) }

-- Arguments

pub args_there : (l : Leaf) (ts : List Mono) (u : Mono) → InArgs l (arguments_of (ts ++ u ∷ [])) → InArgs l (arguments_of ts) ⊎ In l u
args_there l [] u (inl i) = inr i
args_there l [] u (inr i) = absurd i
args_there l (t ∷ ts) u (inl i) = inl (inl i)
args_there l (t ∷ ts) u (inr i) = ⊎_elim (λ k. inl (inr k)) (λ k. inr k) (args_there l ts u i)

args_back : (l : Leaf) (ts : List Mono) (u : Mono) → InArgs l (arguments_of ts) ⊎ In l u → InArgs l (arguments_of (ts ++ u ∷ []))
args_back l [] u (inl i) = absurd i
args_back l [] u (inr i) = inl i
args_back l (t ∷ ts) u (inl (inl i)) = inl i
args_back l (t ∷ ts) u (inl (inr i)) = inr (args_back l ts u (inl i))
args_back l (t ∷ ts) u (inr i) = inr (args_back l ts u (inr i))

pub gathers_more : (a b c : Collected) (ts : List Ty) (i : ℕ) (d : Ty) → i < length ts → d ≡ get_or ts i d → Gathers (λ l. InArgs l (arguments_of (take i (types_of ts)))) a b → Gathers (λ l. In l (type_of d)) b c →
    Gathers (λ l. InArgs l (arguments_of (take (i + 1) (types_of ts)))) a c
gathers_more a b c ts i d below is f g =
    let e = types_of_more ts i d below is in
    gathers_both a b c (λ l r. args_there l _ _ (subst (λ us. InArgs l (arguments_of us)) e r)) (λ l r. subst (λ us. InArgs l (arguments_of us)) (sym e) (args_back l _ _ r)) f g

pub gathers_all : (a b : Collected) (t : Mono) (h : Head) (ts : List Ty) (i : ℕ) → length ts ≤ i → t ≡ app h (arguments_of (types_of ts)) → Gathers (λ l. InArgs l (arguments_of (take i (types_of ts)))) a b → Gathers (λ l. In l t) a b
gathers_all a b t h ts i all whole f =
    let full : take i (types_of ts) ≡ types_of ts = take_all i (types_of ts) (rw (length-map ts type_of) all) in
    subst (λ u. Gathers (λ l. In l u) a b) (sym whole) (subst (λ us. Gathers (λ l. InArgs l (arguments_of us)) a b) full f)

-- Variables that a relation gives for those of a type

args_in_there : (F : Leaf → Leaf → Type 0) (l : Leaf) (ts : List Mono) (u : Mono) → (k : Leaf) × InArgs k (arguments_of (ts ++ u ∷ [])) × F l k → ((k : Leaf) × InArgs k (arguments_of ts) × F l k) ⊎ ((k : Leaf) × In k u × F l k)
args_in_there F l ts u h = ⊎_elim (λ i. inl (h.0, i, h.2)) (λ i. inr (h.0, i, h.2)) (args_there h.0 ts u h.1)

args_in_back : (F : Leaf → Leaf → Type 0) (l : Leaf) (ts : List Mono) (u : Mono) → ((k : Leaf) × InArgs k (arguments_of ts) × F l k) ⊎ ((k : Leaf) × In k u × F l k) → (k : Leaf) × InArgs k (arguments_of (ts ++ u ∷ [])) × F l k
args_in_back F l ts u (inl h) = (h.0, args_back h.0 ts u (inl h.1), h.2)
args_in_back F l ts u (inr h) = (h.0, args_back h.0 ts u (inr h.1), h.2)

pub related_more : (F : Leaf → Leaf → Type 0) (a b c : Collected) (ts : List Ty) (i : ℕ) (d : Ty) → i < length ts → d ≡ get_or ts i d → Gathers (λ l. (k : Leaf) × InArgs k (arguments_of (take i (types_of ts))) × F l k) a b →
    Gathers (λ l. (k : Leaf) × In k (type_of d) × F l k) b c → Gathers (λ l. (k : Leaf) × InArgs k (arguments_of (take (i + 1) (types_of ts))) × F l k) a c
related_more F a b c ts i d below is f g =
    let e = types_of_more ts i d below is in
    gathers_both a b c (λ l r. args_in_there F l (take i (types_of ts)) (type_of d) (subst (λ us. (k : Leaf) × InArgs k (arguments_of us) × F l k) e r))
    (λ l r. subst (λ us. (k : Leaf) × InArgs k (arguments_of us) × F l k) (sym e) (args_in_back F l (take i (types_of ts)) (type_of d) r)) f g

pub related_all : (F : Leaf → Leaf → Type 0) (a b : Collected) (t : Mono) (h : Head) (ts : List Ty) (i : ℕ) → length ts ≤ i → t ≡ app h (arguments_of (types_of ts)) → Gathers (λ l. (k : Leaf) × InArgs k (arguments_of (take i (types_of ts))) × F l k) a b →
    Gathers (λ l. (k : Leaf) × In k t × F l k) a b
related_all F a b t h ts i all whole f =
    let full : take i (types_of ts) ≡ types_of ts = take_all i (types_of ts) (rw (length-map ts type_of) all) in
    subst (λ u. Gathers (λ l. (k : Leaf) × In k u × F l k) a b) (sym whole) (subst (λ us. Gathers (λ l. (k : Leaf) × InArgs k (arguments_of us) × F l k) a b) full f)
