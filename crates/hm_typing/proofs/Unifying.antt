-- Each unification problem has a most general unifier, or none.
use Rattle.hm_types.specs.declared.Head.{Head}
use Rattle.hm_types.specs.declared.Head.TheVariants as head
use Rattle.hm_types.specs.declared.Entity.{Entity}
use Rattle.std.proofs.Common.{◌≡◌, ℕ, zero, suc, List, [], ◌∷◌, inl, inr, ◌⊎◌, ⊎_elim, refl, sym, ap, ap₂, ◌∙◌, subst, ◌+◌, ◌<◌, ◌≤◌, length, arith}
use native.Mathlib.Decide.{ℕ_discrete}
use Rattle.hm_types.specs.Types.{Args, Var, App, done, more, In, InArgs, put, put_all}
use Rattle.hm_typing.specs.Names.{Identifier, IsOneOf, local, global, binding}
use Rattle.hm_typing.specs.Schemes.{Monotype}
use Rattle.hm_typing.specs.Problems.{Fact, Equal, Rigid, Unifies, IsBelow, FactsBelow, MostGeneralUnifier}
use Rattle.hm_typing.proofs.Types.{put-agree, put-put, put-Var, In-put}
use Rattle.hm_typing.proofs.Variables.{occurs}
use Rattle.hm_typing.proofs.Names.{name_discrete}
use Rattle.hm_typing.proofs.Generalising.{arguments_of, first_of, rest_of}
use Rattle.hm_typing.proofs.Ordering.{Chosen, chosen}
use Rattle.hm_typing.proofs.Mentioning.{denied}

-- Heads are equal or not

abbrev kind : Head → ℕ
kind (head.Named e) = 0
kind head.Arrow = 1
kind head.List = 2
kind head.Unit = 3
kind (head.Tuple n) = 4

abbrev width : Head → ℕ
width (head.Named e) = 0
width head.Arrow = 0
width head.List = 0
width head.Unit = 0
width (head.Tuple n) = n

abbrev entity_or : Entity → Head → Entity
entity_or d (head.Named e) = e
entity_or d head.Arrow = d
entity_or d head.List = d
entity_or d head.Unit = d
entity_or d (head.Tuple n) = d

abbrev entity_of : Entity → Identifier → Entity
entity_of d (local x) = d
entity_of d (global e) = e
entity_of d (binding m n) = d

differ : (h k : Head) → ¬ (kind h ≡ kind k) → Dec (h ≡ k)
differ h k n = no (λ e. n (ap kind e))

head_discrete : (h k : Head) → Dec (h ≡ k)
head_discrete (head.Named e) (head.Named f) = elim (name_discrete (global e) (global f)) [ yes p ↦ yes (ap head.Named (ap (entity_of e) p)) | no n ↦ no (λ p. n (ap global (ap (entity_or e) p))) ]
head_discrete (head.Named e) head.Arrow = differ (head.Named e) head.Arrow (λ p. absurd (omega arith))
head_discrete (head.Named e) head.List = differ (head.Named e) head.List (λ p. absurd (omega arith))
head_discrete (head.Named e) head.Unit = differ (head.Named e) head.Unit (λ p. absurd (omega arith))
head_discrete (head.Named e) (head.Tuple n) = differ (head.Named e) (head.Tuple n) (λ p. absurd (omega arith))
head_discrete head.Arrow (head.Named f) = differ head.Arrow (head.Named f) (λ p. absurd (omega arith))
head_discrete head.Arrow head.Arrow = yes refl
head_discrete head.Arrow head.List = differ head.Arrow head.List (λ p. absurd (omega arith))
head_discrete head.Arrow head.Unit = differ head.Arrow head.Unit (λ p. absurd (omega arith))
head_discrete head.Arrow (head.Tuple n) = differ head.Arrow (head.Tuple n) (λ p. absurd (omega arith))
head_discrete head.List (head.Named f) = differ head.List (head.Named f) (λ p. absurd (omega arith))
head_discrete head.List head.Arrow = differ head.List head.Arrow (λ p. absurd (omega arith))
head_discrete head.List head.List = yes refl
head_discrete head.List head.Unit = differ head.List head.Unit (λ p. absurd (omega arith))
head_discrete head.List (head.Tuple n) = differ head.List (head.Tuple n) (λ p. absurd (omega arith))
head_discrete head.Unit (head.Named f) = differ head.Unit (head.Named f) (λ p. absurd (omega arith))
head_discrete head.Unit head.Arrow = differ head.Unit head.Arrow (λ p. absurd (omega arith))
head_discrete head.Unit head.List = differ head.Unit head.List (λ p. absurd (omega arith))
head_discrete head.Unit head.Unit = yes refl
head_discrete head.Unit (head.Tuple n) = differ head.Unit (head.Tuple n) (λ p. absurd (omega arith))
head_discrete (head.Tuple m) (head.Named f) = differ (head.Tuple m) (head.Named f) (λ p. absurd (omega arith))
head_discrete (head.Tuple m) head.Arrow = differ (head.Tuple m) head.Arrow (λ p. absurd (omega arith))
head_discrete (head.Tuple m) head.List = differ (head.Tuple m) head.List (λ p. absurd (omega arith))
head_discrete (head.Tuple m) head.Unit = differ (head.Tuple m) head.Unit (λ p. absurd (omega arith))
head_discrete (head.Tuple m) (head.Tuple n) = elim (ℕ_discrete m n) [ yes e ↦ yes (ap head.Tuple e) | no k ↦ no (λ p. k (ap width p)) ]

-- Equations

data Equations : Type 0 where
  solved : Equations
  equal : Monotype → Monotype → Equations → Equations

abbrev Makes : (ℕ → Monotype) → Equations → Type 0
Makes r solved = Unit {0}
Makes r (equal t u Q) = (put r t ≡ put r u) × Makes r Q

abbrev Occurs : ℕ → Equations → Type 0
Occurs a solved = ⊥
Occurs a (equal t u Q) = (In a t ⊎ In a u) ⊎ Occurs a Q

abbrev Keeps : (ℕ → Monotype) → List ℕ → Type 0
Keeps r R = (a : ℕ) → IsOneOf a R → r a ≡ Var a

record Solution (R : List ℕ) (Q : Equations) : Type 0 where
  map : ℕ → Monotype
  kept : Keeps map R
  makes : Makes map Q
  most : (r : ℕ → Monotype) → Keeps r R → Makes r Q → (x : ℕ) → put r (map x) ≡ r x
  below : (n : ℕ) → ((a : ℕ) → Occurs a Q → a < n) → (x : ℕ) → x < n → IsBelow n (map x)

abbrev Outcome : List ℕ → Equations → Type 0
Outcome R Q = Solution R Q ⊎ ((r : ℕ → Monotype) → Keeps r R → ¬ (Makes r Q))

-- Sizes

mutual
  size : Monotype → ℕ
  size (Var a) = 1
  size (App h ts) = suc (sizes ts)

  sizes : Args ℕ → ℕ
  sizes done = 0
  sizes (more t ts) = size t + sizes ts

total : Equations → ℕ
total solved = 0
total (equal t u Q) = size t + (size u + total Q)

-- a variable of a constructor's arguments is smaller than it
mutual
  unfolding size

  size_in : (r : ℕ → Monotype) (x : ℕ) (t : Monotype) → In x t → size (r x) ≤ size (put r t)
  size_in r x (Var a) i = subst (λ b. size (r x) ≤ size (r b)) i (omega arith)
  size_in r x (App h ts) i = let l = sizes_in r x ts i in omega arith

  sizes_in : (r : ℕ → Monotype) (x : ℕ) (ts : Args ℕ) → InArgs x ts → size (r x) ≤ sizes (put_all r ts)
  sizes_in r x done i = absurd i
  sizes_in r x (more t ts) (inl i) = let l = size_in r x t i in omega arith
  sizes_in r x (more t ts) (inr i) = let l = sizes_in r x ts i in omega arith

no_circle : (r : ℕ → Monotype) (x : ℕ) (h : Head) (ts : Args ℕ) → InArgs x ts → ¬ (r x ≡ put r (App h ts))
unfolding size
no_circle r x h ts i e = let l = sizes_in r x ts i in let k : size (r x) ≡ suc (sizes (put_all r ts)) = ap size e in absurd (omega arith)

abbrev number : Monotype → ℕ
number (Var a) = a
number (App h ts) = 0

abbrev head_or : Head → Monotype → Head
head_or d (Var a) = d
head_or d (App h ts) = h

abbrev IsVariable : Monotype → Type 0
IsVariable (Var a) = Unit {0}
IsVariable (App h ts) = ⊥

no_variable : (a : ℕ) (h : Head) (ts : Args ℕ) → ¬ (Var a ≡ App h ts)
no_variable a h ts e = subst IsVariable e tt

-- Arguments, pair by pair

abbrev SameLength : {V W : Type 0} → Args V → Args W → Type 0
SameLength done done = Unit {0}
SameLength done (more u us) = ⊥
SameLength (more t ts) done = ⊥
SameLength (more t ts) (more u us) = SameLength ts us

abbrev zipped : Args ℕ → Args ℕ → Equations → Equations
zipped done us Q = Q
zipped (more t ts) done Q = Q
zipped (more t ts) (more u us) Q = equal t u (zipped ts us Q)

is_same_length : (ts us : Args ℕ) → Dec (SameLength ts us)
is_same_length done done = yes tt
is_same_length done (more u us) = no (λ h. h)
is_same_length (more t ts) done = no (λ h. h)
is_same_length (more t ts) (more u us) = is_same_length ts us

abbrev IsMore : {V : Type 0} → Args V → Type 0
IsMore done = ⊥
IsMore (more t ts) = Unit {0}

equal_length : (r : ℕ → Monotype) (ts us : Args ℕ) → put_all r ts ≡ put_all r us → SameLength ts us
equal_length r done done e = tt
equal_length r done (more u us) e = subst IsMore (sym e) tt
equal_length r (more t ts) done e = subst IsMore e tt
equal_length r (more t ts) (more u us) e = equal_length r ts us (ap rest_of e)

zip_makes : (r : ℕ → Monotype) (ts us : Args ℕ) (Q : Equations) → put_all r ts ≡ put_all r us → Makes r Q → Makes r (zipped ts us Q)
zip_makes r done us Q e m = m
zip_makes r (more t ts) done Q e m = m
zip_makes r (more t ts) (more u us) Q e m = (ap (first_of (Var 0)) e, zip_makes r ts us Q (ap rest_of e) m)

makes_zip : (r : ℕ → Monotype) (ts us : Args ℕ) (Q : Equations) → SameLength ts us → Makes r (zipped ts us Q) → (put_all r ts ≡ put_all r us) × Makes r Q
makes_zip r done done Q s m = (refl, m)
makes_zip r done (more u us) Q s m = absurd s
makes_zip r (more t ts) done Q s m = absurd s
makes_zip r (more t ts) (more u us) Q s m = let k = makes_zip r ts us Q s m.1 in (ap₂ more m.0 k.0, k.1)

zip_occurs : (a : ℕ) (ts us : Args ℕ) (Q : Equations) → Occurs a (zipped ts us Q) → (InArgs a ts ⊎ InArgs a us) ⊎ Occurs a Q
zip_occurs a done us Q o = inr o
zip_occurs a (more t ts) done Q o = inr o
zip_occurs a (more t ts) (more u us) Q (inl (inl i)) = inl (inl (inl i))
zip_occurs a (more t ts) (more u us) Q (inl (inr i)) = inl (inr (inl i))
zip_occurs a (more t ts) (more u us) Q (inr o) = ⊎_elim (λ k. inl (⊎_elim (λ i. inl (inr i)) (λ i. inr (inr i)) k)) inr (zip_occurs a ts us Q o)

zip_total : (ts us : Args ℕ) (Q : Equations) → total (zipped ts us Q) ≤ sizes ts + (sizes us + total Q)
unfolding size total
zip_total done us Q = omega arith
zip_total (more t ts) done Q = omega arith
zip_total (more t ts) (more u us) Q = let l = zip_total ts us Q in omega arith

-- One variable

abbrev put_one : {P : Type 0} → Dec P → ℕ → Monotype → Monotype
put_one (yes p) y t = t
put_one (no n) y t = Var y

abbrev one : ℕ → Monotype → ℕ → Monotype
one x t y = put_one (ℕ_discrete y x) y t

one_here : (x : ℕ) (t : Monotype) → one x t x ≡ t
one_here x t = go (ℕ_discrete x x)
  where
    go : (d : Dec (x ≡ x)) → put_one d x t ≡ t
    go (yes e) = refl
    go (no n) = absurd (n refl)

one_there : (x y : ℕ) (t : Monotype) → ¬ (y ≡ x) → one x t y ≡ Var y
one_there x y t n = go (ℕ_discrete y x)
  where
    go : (d : Dec (y ≡ x)) → put_one d y t ≡ Var y
    go (yes e) = absurd (n e)
    go (no m) = refl

one_same : (x : ℕ) (t u : Monotype) → ¬ (In x u) → put (one x t) u ≡ u
one_same x t u n = put-agree (one x t) Var u (λ y i. one_there x y t (λ e. n (subst (λ v. In v u) e i))) ∙ put-Var u

-- a map that makes x and t equal is as it is after that
one_before : (r : ℕ → Monotype) (x : ℕ) (t : Monotype) → r x ≡ put r t → (y : ℕ) → put r (one x t y) ≡ r y
one_before r x t e y = go (ℕ_discrete y x)
  where
    go : (d : Dec (y ≡ x)) → put r (put_one d y t) ≡ r y
    go (yes p) = sym e ∙ ap r (sym p)
    go (no n) = refl

one_in : (a x y : ℕ) (t : Monotype) → In a (one x t y) → In a t ⊎ ((a ≡ y) × ¬ (y ≡ x))
one_in a x y t i = go (ℕ_discrete y x) i
  where
    go : (d : Dec (y ≡ x)) → In a (put_one d y t) → In a t ⊎ ((a ≡ y) × ¬ (y ≡ x))
    go (yes e) j = inl j
    go (no n) j = inr (j, n)

abbrev under : (ℕ → Monotype) → Equations → Equations
under f solved = solved
under f (equal t u Q) = equal (put f t) (put f u) (under f Q)

under_makes : (r f : ℕ → Monotype) (Q : Equations) → Makes r (under f Q) → Makes (λ x. put r (f x)) Q
under_makes r f solved m = tt
under_makes r f (equal t u Q) m = (sym (put-put r f t) ∙ (m.0 ∙ put-put r f u), under_makes r f Q m.1)

makes_under : (r f : ℕ → Monotype) (Q : Equations) → ((y : ℕ) → put r (f y) ≡ r y) → Makes r Q → Makes r (under f Q)
makes_under r f solved e m = tt
makes_under r f (equal t u Q) e m = (
  put-put r f t ∙ (put-agree _ r t (λ y i. e y) ∙ (m.0 ∙ (sym (put-agree _ r u (λ y i. e y)) ∙ sym (put-put r f u)))),
  makes_under r f Q e m.1,
)

under_occurs : (a : ℕ) (f : ℕ → Monotype) (Q : Equations) → Occurs a (under f Q) → (b : ℕ) × Occurs b Q × In a (f b)
under_occurs a f solved o = absurd o
under_occurs a f (equal t u Q) (inl (inl i)) = let h = In-put f a t i in (h.0, inl (inl h.1), h.2)
under_occurs a f (equal t u Q) (inl (inr i)) = let h = In-put f a u i in (h.0, inl (inr h.1), h.2)
under_occurs a f (equal t u Q) (inr o) = let h = under_occurs a f Q o in (h.0, inr h.1, h.2)

-- x is bound to t
module _ (R : List ℕ) (x : ℕ) (t : Monotype) (Q : Equations) (free : ¬ (IsOneOf x R)) (apart : ¬ (In x t)) where
  bound : Solution R (under (one x t) Q) → Solution R (equal (Var x) t Q)
  bound s = record {
    map = λ y. put s.map (one x t y);
    kept = λ a o. ap (put s.map) (one_there x a t (λ e. free (subst (λ v. IsOneOf v R) e o))) ∙ s.kept a o;
    makes = (
      ap (put s.map) (one_here x t) ∙ (ap (put s.map) (sym (one_same x t t apart)) ∙ put-put s.map (one x t) t),
      under_makes s.map (one x t) Q s.makes,
    );
    most = λ r k m y.
        put-put r s.map (one x t y)
        ∙ (put-agree _ r (one x t y) (λ z i. s.most r k (makes_under r (one x t) Q (one_before r x t m.0) m.1) z) ∙ one_before r x t m.0 y);
    below = λ n f y l a i.
        let h = In-put s.map a (one x t y) i in
        s.below n (λ b o. let k = under_occurs b (one x t) Q o in ⊎_elim (λ j. f b (inl (inr j))) (λ p. subst (λ v. v < n) (sym p.0) (f k.0 (inr k.1))) (one_in b x k.0 t k.2))
        h.0 (⊎_elim (λ j. f h.0 (inl (inr j))) (λ p. subst (λ v. v < n) (sym p.0) l) (one_in h.0 x y t h.1)) a h.2;
  }

  bound_outcome : Outcome R (under (one x t) Q) → Outcome R (equal (Var x) t Q)
  bound_outcome (inl s) = inl (bound s)
  bound_outcome (inr never) = inr (λ r k m. never r k (makes_under r (one x t) Q (one_before r x t m.0) m.1))

turned : (R : List ℕ) (t u : Monotype) (Q : Equations) → Outcome R (equal t u Q) → Outcome R (equal u t Q)
turned R t u Q (inl s) = inl (record {
  map = s.map;
  kept = s.kept;
  makes = (sym s.makes.0, s.makes.1);
  most = λ r k m. s.most r k (sym m.0, m.1);
  below = λ n f. s.below n (λ a o. f a (⊎_elim (λ i. inl (⊎_elim inr inl i)) inr o));
})
turned R t u Q (inr never) = inr (λ r k m. never r k (sym m.0, m.1))

-- Solving: by the number of variables, and then by size

abbrev IsCovered : Equations → List ℕ → Type 0
IsCovered Q vs = (a : ℕ) → Occurs a Q → IsOneOf a vs

pub is_member : (a : ℕ) (R : List ℕ) → Dec (IsOneOf a R)
is_member a [] = no (λ o. o)
is_member a (b ∷ bs) = Rattle.hm_typing.specs.Decisions.either (ℕ_discrete a b) (is_member a bs)

module _ (R : List ℕ) (v : ℕ) (again : (Q : Equations) (vs : List ℕ) → IsCovered Q vs → length vs < v → Outcome R Q) where
  bind : (x : ℕ) (t : Monotype) (Q : Equations) (vs : List ℕ) → ¬ (IsOneOf x R) → ¬ (In x t) → IsCovered (equal (Var x) t Q) vs → length vs ≤ v → Outcome R (equal (Var x) t Q)
  bind x t Q vs free apart c l = bound_outcome R x t Q free apart (again (under (one x t) Q) fewer.0 covered (less (fewer.1.2 x (c x (inl (inl refl))) (λ n. n refl))))
    where
      fewer : (zs : List ℕ) × Chosen (λ a. ¬ (a ≡ x)) vs zs
      fewer = chosen (λ a. denied (ℕ_discrete a x)) vs

      less : length fewer.0 < length vs → length fewer.0 < v
      less h = omega arith

      covered : IsCovered (under (one x t) Q) fewer.0
      covered a o =
          let h = under_occurs a (one x t) Q o in
          (fewer.1.0 a).1 (⊎_elim (λ i. (c a (inl (inr i)), λ e. apart (subst (λ w. In w t) e i))) (λ p. (subst (λ w. IsOneOf w vs) (sym p.0) (c h.0 (inr h.1)), λ e. p.1 (sym p.0 ∙ e))) (one_in a x h.0 t h.2))

  variable_constructor : (x : ℕ) (h : Head) (ts : Args ℕ) (Q : Equations) (vs : List ℕ) → IsCovered (equal (Var x) (App h ts) Q) vs → length vs ≤ v → Outcome R (equal (Var x) (App h ts) Q)
  variable_constructor x h ts Q vs c l = go (is_member x R) (occurs x (App h ts))
    where
      go : Dec (IsOneOf x R) → Dec (In x (App h ts)) → Outcome R (equal (Var x) (App h ts) Q)
      go (yes o) d = inr (λ r k m. no_variable x h (put_all r ts) (sym (k x o) ∙ m.0))
      go (no n) (yes i) = inr (λ r k m. no_circle r x h ts i m.0)
      go (no n) (no a) = bind x (App h ts) Q vs n a c l

  covered_turned : (t u : Monotype) (Q : Equations) (vs : List ℕ) → IsCovered (equal t u Q) vs → IsCovered (equal u t Q) vs
  covered_turned t u Q vs c a o = c a (⊎_elim (λ i. inl (⊎_elim inr inl i)) inr o)

  solve : (s : ℕ) (Q : Equations) (vs : List ℕ) → total Q ≤ s → IsCovered Q vs → length vs ≤ v → Outcome R Q
  unfolding total size
  solve s solved vs m c l = inl (record { map = Var; kept = λ a o. refl; makes = tt; most = λ r k e x. refl; below = λ n f x b a i. subst (λ w. w < n) (sym i) b })
  solve zero (equal (Var x) u Q) vs m c l = absurd (omega arith)
  solve zero (equal (App h ts) u Q) vs m c l = absurd (omega arith)
  solve (suc s) (equal (Var x) (App h ts) Q) vs m c l = variable_constructor x h ts Q vs c l
  solve (suc s) (equal (App h ts) (Var x) Q) vs m c l = turned R (Var x) (App h ts) Q (variable_constructor x h ts Q vs (covered_turned (App h ts) (Var x) Q vs c) l)
  solve (suc s) (equal (Var x) (Var y) Q) vs m c l = go (ℕ_discrete x y) (is_member x R) (is_member y R) (solve s Q vs (omega arith) (λ a o. c a (inr o)) l)
    where
      go : Dec (x ≡ y) → Dec (IsOneOf x R) → Dec (IsOneOf y R) → Outcome R Q → Outcome R (equal (Var x) (Var y) Q)
      go (yes e) p q (inl k) = inl (record { map = k.map; kept = k.kept; makes = (ap k.map e, k.makes); most = λ r j n. k.most r j n.1; below = λ n f. k.below n (λ a o. f a (inr o)) })
      go (yes e) p q (inr never) = inr (λ r j n. never r j n.1)
      go (no n) (no p) q k = bind x (Var y) Q vs p n c l
      go (no n) (yes p) (no q) k = turned R (Var y) (Var x) Q (bind y (Var x) Q vs q (λ e. n (sym e)) (covered_turned (Var x) (Var y) Q vs c) l)
      go (no n) (yes p) (yes q) k = inr (λ r j e. n (ap number (sym (j x p) ∙ (e.0 ∙ j y q))))
  solve (suc s) (equal (App h ts) (App k us) Q) vs m c l = go (head_discrete h k) (is_same_length ts us)
      (solve s (zipped ts us Q) vs (smaller (zip_total ts us Q)) (λ a o. c a (⊎_elim inl inr (zip_occurs a ts us Q o))) l)
    where
      smaller : total (zipped ts us Q) ≤ sizes ts + (sizes us + total Q) → total (zipped ts us Q) ≤ s
      smaller z = omega arith

      go : Dec (h ≡ k) → Dec (SameLength ts us) → Outcome R (zipped ts us Q) → Outcome R (equal (App h ts) (App k us) Q)
      go (no n) d o = inr (λ r j e. n (ap (head_or h) e.0))
      go (yes p) (no n) o = inr (λ r j e. n (equal_length r ts us (ap (arguments_of done) e.0)))
      go (yes p) (yes q) (inr never) = inr (λ r j e. never r j (zip_makes r ts us Q (ap (arguments_of done) e.0) e.1))
      go (yes p) (yes q) (inl w) = inl (record {
        map = w.map;
        kept = w.kept;
        makes = (let z = makes_zip w.map ts us Q q w.makes in (ap₂ App p z.0, z.1));
        most = λ r j e. w.most r j (zip_makes r ts us Q (ap (arguments_of done) e.0) e.1);
        below = λ n f. w.below n (λ a o. f a (⊎_elim inl inr (zip_occurs a ts us Q o)));
      })

solve_all : (R : List ℕ) (v : ℕ) (Q : Equations) (vs : List ℕ) → IsCovered Q vs → length vs ≤ v → Outcome R Q
solve_all R zero Q vs c l = solve R zero (λ Q' vs' c' l'. absurd (omega arith)) (total Q) Q vs (omega arith) c l
solve_all R (suc v) Q vs c l = solve R (suc v) (λ Q' vs' c' l'. solve_all R v Q' vs' c' (omega arith)) (total Q) Q vs (omega arith) c l

-- Problems

mutual
  variables : Monotype → List ℕ → List ℕ
  variables (Var a) vs = a ∷ vs
  variables (App h ts) vs = all_variables ts vs

  all_variables : Args ℕ → List ℕ → List ℕ
  all_variables done vs = vs
  all_variables (more t ts) vs = variables t (all_variables ts vs)

mutual
  unfolding variables

  in_variables : (a : ℕ) (t : Monotype) (vs : List ℕ) → In a t ⊎ IsOneOf a vs → IsOneOf a (variables t vs)
  in_variables a (Var b) vs (inl e) = inl e
  in_variables a (Var b) vs (inr o) = inr o
  in_variables a (App h ts) vs o = in_all_variables a ts vs o

  in_all_variables : (a : ℕ) (ts : Args ℕ) (vs : List ℕ) → InArgs a ts ⊎ IsOneOf a vs → IsOneOf a (all_variables ts vs)
  in_all_variables a done vs (inl i) = absurd i
  in_all_variables a done vs (inr o) = o
  in_all_variables a (more t ts) vs (inl (inl i)) = in_variables a t (all_variables ts vs) (inl i)
  in_all_variables a (more t ts) vs (inl (inr i)) = in_variables a t (all_variables ts vs) (inr (in_all_variables a ts vs (inl i)))
  in_all_variables a (more t ts) vs (inr o) = in_variables a t (all_variables ts vs) (inr (in_all_variables a ts vs (inr o)))

listed : Equations → List ℕ
listed solved = []
listed (equal t u Q) = variables t (variables u (listed Q))

listed_covers : (Q : Equations) → IsCovered Q (listed Q)
unfolding listed
listed_covers solved a o = absurd o
listed_covers (equal t u Q) a (inl (inl i)) = in_variables a t _ (inl i)
listed_covers (equal t u Q) a (inl (inr i)) = in_variables a t _ (inr (in_variables a u _ (inl i)))
listed_covers (equal t u Q) a (inr o) = in_variables a t _ (inr (in_variables a u _ (inr (listed_covers Q a o))))

abbrev rigid_of : List Fact → List ℕ
rigid_of [] = []
rigid_of (Equal t u ∷ E) = rigid_of E
rigid_of (Rigid a ∷ E) = a ∷ rigid_of E

abbrev equations_of : List Fact → Equations
equations_of [] = solved
equations_of (Equal t u ∷ E) = equal t u (equations_of E)
equations_of (Rigid a ∷ E) = equations_of E

unifier : (r : ℕ → Monotype) (E : List Fact) → Keeps r (rigid_of E) → Makes r (equations_of E) → Unifies r E
unifier r [] k m = tt
unifier r (Equal t u ∷ E) k m = (m.0, unifier r E k m.1)
unifier r (Rigid a ∷ E) k m = (k a (inl refl), unifier r E (λ b o. k b (inr o)) m)

keeps : (r : ℕ → Monotype) (E : List Fact) → Unifies r E → Keeps r (rigid_of E)
keeps r [] u a o = absurd o
keeps r (Equal t s ∷ E) u a o = keeps r E u.1 a o
keeps r (Rigid b ∷ E) u a (inl e) = subst (λ c. r c ≡ Var c) (sym e) u.0
keeps r (Rigid b ∷ E) u a (inr o) = keeps r E u.1 a o

makes : (r : ℕ → Monotype) (E : List Fact) → Unifies r E → Makes r (equations_of E)
makes r [] u = tt
makes r (Equal t s ∷ E) u = (u.0, makes r E u.1)
makes r (Rigid b ∷ E) u = makes r E u.1

occurs_below : (n : ℕ) (E : List Fact) → FactsBelow n E → (a : ℕ) → Occurs a (equations_of E) → a < n
occurs_below n [] b a o = absurd o
occurs_below n (Equal t u ∷ E) b a (inl (inl i)) = b.0.0 a i
occurs_below n (Equal t u ∷ E) b a (inl (inr i)) = b.0.1 a i
occurs_below n (Equal t u ∷ E) b a (inr o) = occurs_below n E b.1 a o
occurs_below n (Rigid c ∷ E) b a o = occurs_below n E b.1 a o

pub unification : (E : List Fact) → MostGeneralUnifier E ⊎ ((r : ℕ → Monotype) → Unifies r E → ⊥)
unification E = go (solve_all (rigid_of E) (length (listed (equations_of E))) (equations_of E) (listed (equations_of E)) (listed_covers (equations_of E)) (omega arith))
  where
    go : Outcome (rigid_of E) (equations_of E) → MostGeneralUnifier E ⊎ ((r : ℕ → Monotype) → Unifies r E → ⊥)
    go (inl s) = inl (record {
      map = s.map;
      unifies = unifier s.map E s.kept s.makes;
      most = λ r u. s.most r (keeps r E u) (makes r E u);
      below = λ n b. s.below n (occurs_below n E b);
    })
    go (inr never) = inr (λ r u. never r (keeps r E u) (makes r E u))
