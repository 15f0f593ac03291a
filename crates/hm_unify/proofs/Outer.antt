-- Which variables occur in the values of older ones, and what one more binding changes.
use Rattle.std.proofs.Common.{◌≡◌, ℕ, zero, suc, ◌+◌, ◌≤◌, ◌<◌, true, false, ◌||◌, ◌==◌, List, [], ◌∷◌, ◌++◌, length, take, get_or, Some, refl, sym, ap, ◌∙◌, ◌⊎◌, inl, inr, ◌↔◌, subst, arith}
use Rattle.std.specs.List.{slice_get}
use Rattle.std.specs.Prelude.{nat_eq, nat_lt, None, is_some}
use Rattle.std.specs.HashMap.{HashMap, get}
use Rattle.std.proofs.lemmas.List.{take_all, length-map}
use Rattle.hm_types.specs.declared.Head.{Head}
use Rattle.hm_types.specs.declared.monotypes.Ty.{Ty}
use Rattle.hm_types.specs.Numbers.{Numbers}
use Rattle.hm_types.specs.Schemes.{is_among, place}
use Rattle.hm_types.proofs.Rows.{types_of_more}
use Rattle.std.proofs.lemmas.Bool.{eqb-true, eqb-false, eq-eqb, lt-ltb, le-ltb}
use Rattle.hm_types.specs.Types.{App as app, done as none, more, Var as leaf, In, InArgs}
use Rattle.hm_types.specs.Monotypes.{Leaf, Mono, Monos, var, rigid, arguments_of}
use Rattle.hm_types.specs.Shape.{type_of, types_of}
use Rattle.hm_types.specs.Substitution.{substitute, substitute_all, composed, single, occurs, occurs_in_any}
use Rattle.hm_types.proofs.Substitution.{or_left, or_right, or_both, or_cases, or_neither, bool_cases, subst_subst, subst_equal, subst_var, single_same, single_there}
use Rattle.hm_unify.specs.declared.bindings.Binding.{Binding}
use Rattle.hm_unify.specs.declared.levels.Levels.{Levels}
use Rattle.hm_unify.specs.Unifier.{Equation}
use Rattle.hm_unify.specs.Bindings.{bind, solution, is_bound, IsTriangular}
use Rattle.hm_unify.specs.Steps.{equation_of, HasBinding, IsFree}
use Rattle.hm_unify.specs.Laws.{OccurrenceIsTested, OuterIsTested}
use Rattle.hm_unify.specs.Levels.{number_of, is_leaf, has, has_in_any, value_of, IsOuter, is_outer, deeper_after, deeper_after_all}
use Rattle.hm_unify.specs.LevelTables.{level_of, Lowers, IsUnbound, IsLevelled}
use Rattle.hm_unify.proofs.Unifiers.{free_unbound, solution_eliminates}

-- ---- variables

pub leaf_true : (v x : Leaf) → is_leaf v x ≡ true → v ≡ x
leaf_true (var m) (var n) e = ap var (eqb-true m n e)
leaf_true (var m) (rigid n) e = absurd (cc)
leaf_true (rigid m) (var n) e = absurd (cc)
leaf_true (rigid m) (rigid n) e = ap rigid (eqb-true m n e)

pub leaf_same : (v x : Leaf) → v ≡ x → is_leaf v x ≡ true
leaf_same (var m) (var n) e = eq-eqb m n (ap number_of e)
leaf_same (var m) (rigid n) e = absurd (cc)
leaf_same (rigid m) (var n) e = absurd (cc)
leaf_same (rigid m) (rigid n) e = eq-eqb m n (ap number_of e)

mutual
  pub has_in : (x : Leaf) (t : Mono) → has x t ≡ true → In x t
  has_in x (leaf v) h = sym (leaf_true v x h)
  has_in x (app k ts) h = row_has_in x ts h

  row_has_in : (x : Leaf) (ts : Monos) → has_in_any x ts ≡ true → InArgs x ts
  row_has_in x none h = absurd (cc)
  row_has_in x (more t ts) h = elim (or_cases (has x t) (has_in_any x ts) h) [ inl a ↦ inl (has_in x t a) | inr b ↦ inr (row_has_in x ts b) ]

mutual
  pub in_has : (x : Leaf) (t : Mono) → In x t → has x t ≡ true
  in_has x (leaf v) h = leaf_same v x (sym h)
  in_has x (app k ts) h = row_in_has x ts h

  row_in_has : (x : Leaf) (ts : Monos) → InArgs x ts → has_in_any x ts ≡ true
  row_in_has x none h = absurd h
  row_in_has x (more t ts) h = elim h [ inl a ↦ or_left (has x t) (has_in_any x ts) (in_has x t a) | inr b ↦ or_right (has x t) (has_in_any x ts) (row_in_has x ts b) ]

pub occurrence_is_tested : OccurrenceIsTested
occurrence_is_tested x t = (has_in x t, in_has x t)

mutual
  pub has_variable : (n : ℕ) (t : Mono) → has (var n) t ≡ occurs n t
  has_variable n (leaf (var m)) = refl
  has_variable n (leaf (rigid m)) = refl
  has_variable n (app k ts) = row_has_variable n ts

  row_has_variable : (n : ℕ) (ts : Monos) → has_in_any (var n) ts ≡ occurs_in_any n ts
  row_has_variable n none = refl
  row_has_variable n (more t ts) = rw (has_variable n t, row_has_variable n ts) refl

-- ---- outer variables

pub is_outer_holds : (es : List Equation) (k : ℕ) (x : Leaf) → is_outer es k x ≡ true → IsOuter es k x
is_outer_holds es zero x h = absurd (cc)
is_outer_holds es (suc n) x h =
    elim (or_cases (has x (value_of es (var n))) (has x (value_of es (rigid n)) || is_outer es n x) h) [
      | inl a ↦ record { holder = var n; before = omega arith; held = a }
      | inr b ↦
          elim (or_cases (has x (value_of es (rigid n))) (is_outer es n x) b) [
            | inl a ↦ record { holder = rigid n; before = omega arith; held = a }
            | inr c ↦ let rest = is_outer_holds es n x c in record { holder = rest.holder; before = (let less = rest.before in omega arith); held = rest.held }
          ]
    ]

holder_outer : (es : List Equation) (k : ℕ) (x v : Leaf) → number_of v < k → has x (value_of es v) ≡ true → is_outer es k x ≡ true
holder_outer es zero x v h o = absurd (omega arith)
holder_outer es (suc n) x (var m) h o =
    elim (bool_cases (m == n)) [
      | inl e ↦ or_left (has x (value_of es (var n))) (has x (value_of es (rigid n)) || is_outer es n x) (ap (λ j. has x (value_of es (var j))) (sym (eqb-true m n e)) ∙ o)
      | inr e ↦
          or_right (has x (value_of es (var n))) (has x (value_of es (rigid n)) || is_outer es n x)
          (or_right (has x (value_of es (rigid n))) (is_outer es n x) (holder_outer es n x (var m) (below m n h (eqb-false m n e)) o))
    ]
  where
    below : (m n : ℕ) → m < suc n → (m ≡ n → ⊥) → m < n
    below m n h o = omega arith
holder_outer es (suc n) x (rigid m) h o =
    elim (bool_cases (m == n)) [
      | inl e ↦
          or_right (has x (value_of es (var n))) (has x (value_of es (rigid n)) || is_outer es n x)
          (or_left (has x (value_of es (rigid n))) (is_outer es n x) (ap (λ j. has x (value_of es (rigid j))) (sym (eqb-true m n e)) ∙ o))
      | inr e ↦
          or_right (has x (value_of es (var n))) (has x (value_of es (rigid n)) || is_outer es n x)
          (or_right (has x (value_of es (rigid n))) (is_outer es n x) (holder_outer es n x (rigid m) (below m n h (eqb-false m n e)) o))
    ]
  where
    below : (m n : ℕ) → m < suc n → (m ≡ n → ⊥) → m < n
    below m n h o = omega arith

pub outer_is_tested : OuterIsTested
outer_is_tested es k x = (is_outer_holds es k x, λ o. holder_outer es k x o.holder o.before o.held)

-- ---- one more binding

solution_more : (es : List Equation) (e : Equation) (n : ℕ) → solution (es ++ e ∷ []) n ≡ substitute (bind e.left e.right) (solution es n)
solution_more [] e n = subst_var (bind e.left e.right n)
solution_more (d ∷ es) e n =
    subst_equal (solution (es ++ e ∷ [])) (composed (solution es) (bind e.left e.right)) (bind d.left d.right n) (solution_more es e) ∙
    sym (subst_subst (solution es) (bind e.left e.right) (bind d.left d.right n))

value_more : (es : List Equation) (e : Equation) (v : Leaf) → value_of (es ++ e ∷ []) v ≡ substitute (bind e.left e.right) (value_of es v)
value_more es e (var n) = solution_more es e n
value_more es e (rigid n) = refl

-- what a binding brings into a type
module _ (x : Leaf) (y : ℕ) (t : Mono) where
  mutual
    has_put : (u : Mono) → has x (substitute (single y t) u) ≡ true → (has x u ≡ true) ⊎ ((has (var y) u ≡ true) × (has x t ≡ true))
    has_put (leaf (var n)) h =
        elim (bool_cases (n == y)) [
          | inl same ↦ inr (same, ap (has x) (sym (single_same y n t same)) ∙ h)
          | inr other ↦ inl (ap (has x) (sym (single_there y n t other)) ∙ h)
        ]
    has_put (leaf (rigid n)) h = inl h
    has_put (app k us) h = row_has_put us h

    row_has_put : (us : Monos) → has_in_any x (substitute_all (single y t) us) ≡ true → (has_in_any x us ≡ true) ⊎ ((has_in_any (var y) us ≡ true) × (has x t ≡ true))
    row_has_put none h = absurd (cc)
    row_has_put (more u us) h =
        elim (or_cases (has x (substitute (single y t) u)) (has_in_any x (substitute_all (single y t) us)) h) [
          | inl a ↦ elim (has_put u a) [ inl b ↦ inl (or_left (has x u) (has_in_any x us) b) | inr b ↦ inr (or_left (has (var y) u) (has_in_any (var y) us) b.0, b.1) ]
          | inr a ↦ elim (row_has_put us a) [ inl b ↦ inl (or_right (has x u) (has_in_any x us) b) | inr b ↦ inr (or_right (has (var y) u) (has_in_any (var y) us) b.0, b.1) ]
        ]

  mutual
    has_kept : is_leaf (var y) x ≡ false → (u : Mono) → has x u ≡ true → has x (substitute (single y t) u) ≡ true
    has_kept n (leaf (var m)) h =
        elim (bool_cases (m == y)) [
          | inl same ↦ let here : is_leaf (var y) x ≡ true = ap (λ k. is_leaf (var k) x) (sym (eqb-true m y same)) ∙ h in absurd (cc)
          | inr other ↦ ap (has x) (single_there y m t other) ∙ h
        ]
    has_kept n (leaf (rigid m)) h = h
    has_kept n (app k us) h = row_has_kept n us h

    row_has_kept : is_leaf (var y) x ≡ false → (us : Monos) → has_in_any x us ≡ true → has_in_any x (substitute_all (single y t) us) ≡ true
    row_has_kept n none h = absurd (cc)
    row_has_kept n (more u us) h =
        elim (or_cases (has x u) (has_in_any x us) h) [
          | inl a ↦ or_left (has x (substitute (single y t) u)) (has_in_any x (substitute_all (single y t) us)) (has_kept n u a)
          | inr a ↦ or_right (has x (substitute (single y t) u)) (has_in_any x (substitute_all (single y t) us)) (row_has_kept n us a)
        ]

  mutual
    has_brought : has x t ≡ true → (u : Mono) → has (var y) u ≡ true → has x (substitute (single y t) u) ≡ true
    has_brought i (leaf (var m)) h = ap (has x) (single_same y m t h) ∙ i
    has_brought i (leaf (rigid m)) h = absurd (cc)
    has_brought i (app k us) h = row_has_brought i us h

    row_has_brought : has x t ≡ true → (us : Monos) → has_in_any (var y) us ≡ true → has_in_any x (substitute_all (single y t) us) ≡ true
    row_has_brought i none h = absurd (cc)
    row_has_brought i (more u us) h =
        elim (or_cases (has (var y) u) (has_in_any (var y) us) h) [
          | inl a ↦ or_left (has x (substitute (single y t) u)) (has_in_any x (substitute_all (single y t) us)) (has_brought i u a)
          | inr a ↦ or_right (has x (substitute (single y t) u)) (has_in_any x (substitute_all (single y t) us)) (row_has_brought i us a)
        ]

-- ---- levels

bound_more : (n : ℕ) (es : List Equation) (y : ℕ) (t : Mono) → is_bound n (es ++ record { left = leaf (var y); right = t } ∷ []) ≡ false → (is_bound n es ≡ false) × ((y == n) ≡ false)
bound_more n [] y t h = (refl, (or_neither (y == n) false h).0)
bound_more n (e ∷ es) y t h =
    let parts = or_neither (occurs n e.left) (is_bound n (es ++ record { left = leaf (var y); right = t } ∷ [])) h in
    let rest = bound_more n es y t parts.1 in
    (or_both (occurs n e.left) (is_bound n es) parts.0 rest.0, rest.1)

unbound_more : (x : Leaf) (es : List Equation) (y : ℕ) (t : Mono) → IsUnbound (es ++ record { left = leaf (var y); right = t } ∷ []) x → IsUnbound es x × (is_leaf (var y) x ≡ false)
unbound_more (var n) es y t u = bound_more n es y t u
unbound_more (rigid n) es y t u = (tt, refl)

pub levelled_added : (es fs : List Equation) (b : Binding) (level : ℕ) (l m : Levels) → fs ≡ es ++ equation_of b ∷ [] → IsFree es b → IsLevelled es l → level ≡ level_of l (var b.variable)
    → Lowers (λ x. has x (type_of b.target)) level l m → IsLevelled fs m
levelled_added es fs b level l m is free levelled el low = rw is (record { exact = λ x k u. (there x k u, back x k u) })
  where
    y : ℕ
    y = b.variable

    t : Mono
    t = type_of b.target

    next : List Equation
    next = es ++ equation_of b ∷ []

    outer_y : (k : ℕ) → (level_of l (var b.variable) < k) ↔ IsOuter es k (var b.variable)
    outer_y k = levelled.exact (var b.variable) k (free_unbound es b free)

    there : (x : Leaf) (k : ℕ) → IsUnbound (es ++ equation_of b ∷ []) x → level_of m x < k → IsOuter (es ++ equation_of b ∷ []) k x
    there x k u h =
        let parts = unbound_more x es b.variable (type_of b.target) u in
        elim ((low.levels x k).0 h) [
          | inl a ↦
              let o = (levelled.exact x k parts.0).0 a in
              record {
                holder = o.holder;
                before = o.before;
                held = ap (has x) (value_more es (equation_of b) o.holder) ∙ has_kept x b.variable (type_of b.target) parts.1 (value_of es o.holder) o.held;
              }
          | inr a ↦
              let o = (outer_y k).0 (subst (λ n. n < k) el a.1) in
              record {
                holder = o.holder;
                before = o.before;
                held = ap (has x) (value_more es (equation_of b) o.holder) ∙ has_brought x b.variable (type_of b.target) a.0 (value_of es o.holder) o.held;
              }
        ]

    back : (x : Leaf) (k : ℕ) → IsUnbound (es ++ equation_of b ∷ []) x → IsOuter (es ++ equation_of b ∷ []) k x → level_of m x < k
    back x k u o =
        let parts = unbound_more x es b.variable (type_of b.target) u in
        elim (has_put x b.variable (type_of b.target) (value_of es o.holder) (ap (has x) (sym (value_more es (equation_of b) o.holder)) ∙ o.held)) [
          | inl a ↦ (low.levels x k).1 (inl ((levelled.exact x k parts.0).1 (record { holder = o.holder; before = o.before; held = a })))
          | inr a ↦ (low.levels x k).1 (inr (a.1, subst (λ n. n < k) (sym el) ((outer_y k).1 (record { holder = o.holder; before = o.before; held = a.0 }))))
        ]

-- no equations: each variable has its own number
pub levelled_none : (es : List Equation) (l : Levels) → es ≡ [] → ((x : Leaf) → level_of l x ≡ number_of x) → IsLevelled es l
levelled_none es l e own = rw e (record { exact = λ x k _. (there x k, back x k) })
  where
    there : (x : Leaf) (k : ℕ) → level_of l x < k → IsOuter [] k x
    there (var n) k h = record { holder = var n; before = (let is = own (var n) in omega arith); held = eq-eqb n n refl }
    there (rigid n) k h = record { holder = rigid n; before = (let is = own (rigid n) in omega arith); held = eq-eqb n n refl }

    is : (v x : Leaf) → has x (value_of [] v) ≡ true → v ≡ x
    is (var n) x h = leaf_true (var n) x h
    is (rigid n) x h = leaf_true (rigid n) x h

    back : (x : Leaf) (k : ℕ) → IsOuter [] k x → level_of l x < k
    back x k o = let same : number_of o.holder ≡ number_of x = ap number_of (is o.holder x o.held) in let less = o.before in let at = own x in omega arith

-- the same levels
pub levelled_same : (es fs : List Equation) (l m : Levels) → fs ≡ es → ((x : Leaf) → level_of m x ≡ level_of l x) → IsLevelled es l → IsLevelled fs m
levelled_same es fs l m e same levelled = rw e (record {
  exact = λ x k u. (
    λ h. (levelled.exact x k u).0 (subst (λ n. n < k) (same x) h),
    λ o. subst (λ n. n < k) (sym (same x)) ((levelled.exact x k u).1 o),
  );
})

-- ---- the tests

pub has_binding_bound : (es : List Equation) (x : ℕ) (t : Mono) → HasBinding es x t → is_bound x es ≡ true
has_binding_bound es x t b = bound_at es b.0 b.1
  where
    bound_at : (fs : List Equation) (i : ℕ) → slice_get fs i ≡ Some (record { left = leaf (var x); right = t }) → is_bound x fs ≡ true
    bound_at [] i e = absurd (cc)
    bound_at (f ∷ fs) zero e =
        let same : f ≡ record { left = leaf (var x); right = t } = cc in
        or_left (occurs x f.left) (is_bound x fs) (ap (λ c. occurs x c.left) same ∙ eq-eqb x x refl)
    bound_at (f ∷ fs) (suc i) e = or_right (occurs x f.left) (is_bound x fs) (bound_at fs i e)

pub bound_not_outer : (es : List Equation) (n k : ℕ) → IsTriangular es → is_bound n es ≡ true → is_outer es k (var n) ≡ false
bound_not_outer es n zero r b = refl
bound_not_outer es n (suc k) r b =
    or_both (has (var n) (value_of es (var k))) (has (var n) (value_of es (rigid k)) || is_outer es k (var n))
    (has_variable n (value_of es (var k)) ∙ solution_eliminates n es r b (leaf (var k))) (or_both false (is_outer es k (var n)) refl (bound_not_outer es n k r b))

pub tested_outer : (es : List Equation) (l : Levels) (x : Leaf) (k level : ℕ) → IsLevelled es l → IsUnbound es x → level ≡ level_of l x → nat_lt level k ≡ is_outer es k x
tested_outer es l x k level levelled u is =
    elim (bool_cases (is_outer es k x)) [
      | inl o ↦ let less = (levelled.exact x k u).1 (is_outer_holds es k x o) in lt-ltb level k (omega (arith, is)) ∙ sym o
      | inr n ↦
          le-ltb level k (not_less (λ h.
          let o = (levelled.exact x k u).0 (subst (λ m. m < k) is h) in
          let bad : is_outer es k x ≡ true = holder_outer es k x o.holder o.before o.held in
          absurd (cc))) ∙ sym n
    ]
  where
    not_less : (level < k → ⊥) → k ≤ level
    not_less h = omega arith

-- ---- numbers seen

-- a number has a place where it is among them
pub seen_among : {S : Type 0} (table : HashMap ℕ ℕ S) (xs : List ℕ) (n : ℕ) → Numbers table xs → is_some (get nat_eq table n) ≡ is_among n xs
seen_among table xs n numbers =
    elim (bool_cases (is_among n xs)) [
      | inl here ↦ let told : get nat_eq table n ≡ Some (place n xs) = numbers.at n ∙ rw here refl in ap is_some told ∙ sym here
      | inr absent ↦ let told : get nat_eq table n ≡ None = numbers.at n ∙ rw absent refl in ap is_some told ∙ sym absent
    ]

-- ---- rows of arguments

deeper_append : (es : List Equation) (k : ℕ) (ts us : List Mono) (seen : List ℕ)
    → deeper_after_all es k seen (arguments_of (ts ++ us)) ≡ deeper_after_all es k (deeper_after_all es k seen (arguments_of ts)) (arguments_of us)
deeper_append es k [] us seen = refl
deeper_append es k (t ∷ ts) us seen = deeper_append es k ts us (deeper_after es k seen t)

pub deeper_more : (es : List Equation) (k : ℕ) (ts : List Ty) (i : ℕ) (d : Ty) (first now next : List ℕ) → i < length ts → d ≡ get_or ts i d
    → now ≡ deeper_after_all es k first (arguments_of (take i (types_of ts))) → next ≡ deeper_after es k now (type_of d) → next ≡ deeper_after_all es k first (arguments_of (take (i + 1) (types_of ts)))
deeper_more es k ts i d first now next below is before here =
    here ∙ ap (λ s. deeper_after es k s (type_of d)) before ∙ sym (deeper_append es k (take i (types_of ts)) (type_of d ∷ []) first) ∙
    ap (λ us. deeper_after_all es k first (arguments_of us)) (sym (types_of_more ts i d below is))

pub deeper_all : (es : List Equation) (k : ℕ) (t : Mono) (h : Head) (ts : List Ty) (i : ℕ) (first now : List ℕ) → t ≡ app h (arguments_of (types_of ts)) → length ts ≤ i
    → now ≡ deeper_after_all es k first (arguments_of (take i (types_of ts))) → now ≡ deeper_after es k first t
deeper_all es k t h ts i first now whole all before =
    before ∙ ap (λ us. deeper_after_all es k first (arguments_of us)) (take_all i (types_of ts) (omega (arith, length-map ts type_of))) ∙ ap (deeper_after es k first) (sym whole)
