-- Groups of mutual reach give the order of a list's units, and each list has them.
use Rattle.std.proofs.Common.{◌≡◌, ℕ, zero, suc, List, [], ◌∷◌, ◌++◌, Bool, true, false, ◌||◌, inl, inr, ◌⊎◌, ⊎_elim, ◌↔◌, refl, sym, ◌∙◌, subst, ◌<◌, ◌≤◌, length, arith, true≢false}
use Rattle.hm_types.specs.Types.{In}
use Rattle.hm_typing.specs.Names.{Identifier, IsOneOf, IsDistinct}
use Rattle.hm_typing.specs.Schemes.{Scheme, Free, closed, monomorphic}
use Rattle.hm_typing.specs.Syntax.{Bindings, no_binding, unsigned, signed, matched, bool, matched_names, names}
use Rattle.hm_typing.specs.Units.{IsUnsigned, IsSigned, BindingMentions, RefersTo, Reaches, directly, through, SameUnit, AreUnits}
use Rattle.hm_typing.specs.Orders.{IsReady, SignedAre, IsOrder, Layout, IsInSome, ComeInOrder, AreGroups, AreTestsOf}
use Rattle.hm_typing.proofs.Names.{name_discrete}
use Rattle.hm_typing.proofs.Bind.{is_one_of}
use Rattle.hm_typing.proofs.Local.{IsOneOf-left, IsOneOf-right}
use Rattle.hm_typing.proofs.Matching.{one_of, distinct_rest}
use Rattle.hm_typing.proofs.Bridge.{In_closed}
use Rattle.hm_typing.proofs.Lists.{kind_of}
use Rattle.hm_typing.proofs.Judge.{Reaches-trans, Reaches-unsigned}
use Rattle.hm_typing.proofs.Mentioning.{also, denied, binding_mentions, is_unsigned}
use Rattle.hm_typing.proofs.FaultLists.{SameUnit-sym, SameUnit-trans}

-- Decisions as tests

pub test : {P : Type 0} → Dec P → Bool
test (yes p) = true
test (no n) = false

pub test-holds : {P : Type 0} (d : Dec P) → test d ≡ true → P
unfolding test
test-holds (yes p) e = p
test-holds (no n) e = absurd (true≢false (sym e))

pub holds-test : {P : Type 0} (d : Dec P) → P → test d ≡ true
unfolding test
holds-test (yes p) q = refl
holds-test (no n) q = absurd (n q)

same_bool : (a b : Bool) → (a ≡ true → b ≡ true) → (b ≡ true → a ≡ true) → a ≡ b
same_bool true b f g = sym (f refl)
same_bool false true f g = g refl
same_bool false false f g = refl

-- Declared schemes

pub declared_in : Bindings → Identifier → Scheme
declared_in no_binding x = closed bool
declared_in (unsigned z cs D) x = declared_in D x
declared_in (signed z s cs D) x = elim (name_discrete x z) [ yes e ↦ closed s | no n ↦ declared_in D x ]
declared_in (matched k p cs D) x = declared_in D x

declared_closed : (D : Bindings) (x : Identifier) (a : ℕ) → ¬ (In (Free a) (declared_in D x))
unfolding declared_in
declared_closed no_binding x a i = In_closed bool a i
declared_closed (unsigned z cs D) x a i = declared_closed D x a i
declared_closed (signed z s cs D) x a i = go (name_discrete x z) (declared_closed D x a) i
  where
    go : (d : Dec (x ≡ z)) → ¬ (In (Free a) (declared_in D x)) → ¬ (In (Free a) (elim d [ yes e ↦ closed s | no n ↦ declared_in D x ]))
    go (yes e) ih h = In_closed s a h
    go (no n) ih h = ih h
declared_closed (matched k p cs D) x a i = declared_closed D x a i

declared_same : (z : Identifier) (s : Rattle.hm_typing.specs.Schemes.Monotype) (D : Bindings) (x : Identifier) (d : Dec (x ≡ z)) → x ≡ z → elim d [ yes e ↦ closed s | no n ↦ declared_in D x ] ≡ closed s
declared_same z s D x (yes e) p = refl
declared_same z s D x (no n) p = absurd (n p)

declared_other : (z : Identifier) (s : Rattle.hm_typing.specs.Schemes.Monotype) (D : Bindings) (x : Identifier) (d : Dec (x ≡ z)) → ¬ (x ≡ z) → elim d [ yes e ↦ closed s | no n ↦ declared_in D x ] ≡ declared_in D x
declared_other z s D x (yes e) p = absurd (p e)
declared_other z s D x (no n) p = refl

are_declared_by : (B : Identifier → Scheme) (D : Bindings) → IsDistinct (names D) → ((x : Identifier) → IsOneOf x (names D) → B x ≡ declared_in D x) → SignedAre B D
unfolding declared_in
are_declared_by B no_binding d f = tt
are_declared_by B (unsigned z cs D) d f = are_declared_by B D d.1 (λ x o. f x (inr o))
are_declared_by B (signed z s cs D) d f = (
  f z (inl refl) ∙ declared_same z s D z (name_discrete z z) refl,
  are_declared_by B D d.1 (λ x o. f x (inr o) ∙ declared_other z s D x (name_discrete x z) (λ e. d.0 (subst (λ v. IsOneOf v (names D)) e o))),
)
are_declared_by B (matched k p cs D) d f = are_declared_by B D (distinct_rest (matched_names k p) (names D) d) (λ x o. f x (IsOneOf-right x (matched_names k p) (names D) o))

-- From groups to a layout

pub is_in_some : (x : Identifier) (gs : List (List Identifier)) → Dec (IsInSome x gs)
is_in_some x [] = no (λ h. h)
is_in_some x (g ∷ gs) = Rattle.hm_typing.specs.Decisions.either (is_one_of x g) (is_in_some x gs)

shares : Identifier → Identifier → List (List Identifier) → Type 0
shares x y [] = ⊥
shares x y (g ∷ gs) = (IsOneOf x g × IsOneOf y g) ⊎ shares x y gs

is_shared : (x y : Identifier) (gs : List (List Identifier)) → Dec (shares x y gs)
unfolding shares
is_shared x y [] = no (λ h. h)
is_shared x y (g ∷ gs) = Rattle.hm_typing.specs.Decisions.either (also (is_one_of x g) (is_one_of y g)) (is_shared x y gs)

shared_group : (x y : Identifier) (gs : List (List Identifier)) → shares x y gs → (g : List Identifier) × IsOneOf g gs × IsOneOf x g × IsOneOf y g
unfolding shares
shared_group x y [] h = absurd h
shared_group x y (g ∷ gs) (inl h) = (g, inl refl, h.0, h.1)
shared_group x y (g ∷ gs) (inr h) = let k = shared_group x y gs h in (k.0, inr k.1, k.2, k.3)

group_shared : (x y : Identifier) (g : List Identifier) (gs : List (List Identifier)) → IsOneOf g gs → IsOneOf x g → IsOneOf y g → shares x y gs
unfolding shares
group_shared x y g [] o p q = absurd o
group_shared x y g (h ∷ gs) (inl e) p q = inl (subst (IsOneOf x) e p, subst (IsOneOf y) e q)
group_shared x y g (h ∷ gs) (inr o) p q = inr (group_shared x y g gs o p q)

some_group : (x : Identifier) (gs : List (List Identifier)) → IsInSome x gs → (g : List Identifier) × IsOneOf g gs × IsOneOf x g
some_group x [] h = absurd h
some_group x (g ∷ gs) (inl o) = (g, inl refl, o)
some_group x (g ∷ gs) (inr h) = let k = some_group x gs h in (k.0, inr k.1, k.2)

mentioned_reach : (ds : Bindings) (x y : Identifier) → BindingMentions x y ds → IsUnsigned y ds → Reaches ds x y
mentioned_reach ds x y m u = directly (m, u)

module _ (ds : Bindings) (distinct : IsDistinct (names ds)) (all_groups : List (List Identifier)) (r : AreGroups ds all_groups) where
  abbrev own : Identifier → Identifier → Bool
  own x y = test (is_shared x y all_groups)

  group_unsigned : (g : List Identifier) → IsOneOf g all_groups → (x : Identifier) → IsOneOf x g → IsUnsigned x ds
  group_unsigned g o x p = ((r.whole g o x x p).0 p).0

  units : AreUnits ds own
  units = (
    distinct,
    λ x y. (
      (λ e. let k = shared_group x y all_groups (test-holds (is_shared x y all_groups) e) in let w = (r.whole k.0 k.1 x y k.2).0 k.3 in (group_unsigned k.0 k.1 x k.2, w.0, w.1)),
      (λ h. let k = some_group x all_groups (r.all x h.0) in holds-test (is_shared x y all_groups) (group_shared x y k.0 all_groups k.1 k.2 ((r.whole k.0 k.1 x y k.2).1 (h.1, h.2)))),
    ),
  )

  abbrev in_group : List Identifier → Identifier → Bool
  in_group g y = test (is_one_of y g)

  abbrev tests : List (List Identifier) → List (Identifier → Bool)
  tests [] = []
  tests (g ∷ gs) = in_group g ∷ tests gs

  tests_of : (gs : List (List Identifier)) → AreTestsOf (tests gs) gs
  tests_of [] = tt
  tests_of (g ∷ gs) = ((λ y. (test-holds (is_one_of y g), holds-test (is_one_of y g))), tests_of gs)

  or_true : (a b : Bool) → (a || b) ≡ true → (a ≡ true) ⊎ (b ≡ true)
  or_true true b e = inl refl
  or_true false b e = inr e

  true_left : (a b : Bool) → a ≡ true → (a || b) ≡ true
  true_left true b e = refl
  true_left false b e = absurd (true≢false (sym e))

  true_right : (a b : Bool) → b ≡ true → (a || b) ≡ true
  true_right true b e = refl
  true_right false b e = e

  ordered : (gs before : List (List Identifier)) (finished : Identifier → Bool) → ((y : Identifier) → (finished y ≡ true) ↔ IsInSome y before) →
      ((g : List Identifier) → IsOneOf g gs → IsOneOf g all_groups) → ((x : Identifier) → IsUnsigned x ds → IsInSome x before ⊎ IsInSome x gs) → ComeInOrder ds before gs → IsOrder ds own finished (tests gs)
  ordered [] before finished f sub all o = λ x u. ⊎_elim (λ h. (f x).1 h) (λ h. absurd h) (all x u)
  ordered (g ∷ gs) before finished f sub all o = (
    record {
      whole = λ x y e. same_bool _ _ (λ p. holds-test (is_one_of y g) (forth x y e (test-holds (is_one_of x g) p))) (λ p. holds-test (is_one_of x g) (back x y e (test-holds (is_one_of y g) p)));
      unit = λ x y p q. holds-test (is_shared x y all_groups) (group_shared x y g all_groups here (test-holds (is_one_of x g) p) (test-holds (is_one_of y g) q));
      open_yet = λ x p. not_finished x (test-holds (is_one_of x g) p) (finished x) refl;
      ready = ready ds (λ x y m. m);
    },
    ordered gs (g ∷ before) (λ y. finished y || in_group g y)
        (λ y. (
          (λ e. ⊎_elim (λ k. inr ((f y).0 k)) (λ k. inl (test-holds (is_one_of y g) k)) (or_true (finished y) (in_group g y) e)),
          (λ h. ⊎_elim (λ k. true_right (finished y) (in_group g y) (holds-test (is_one_of y g) k)) (λ k. true_left (finished y) (in_group g y) ((f y).1 k)) h),
        ))
        (λ h p. sub h (inr p))
        (λ x u. ⊎_elim (λ h. inl (inr h)) (λ h. ⊎_elim (λ k. inl (inl k)) inr h) (all x u))
        o.1,
  )
    where
      here : IsOneOf g all_groups
      here = sub g (inl refl)

      forth : (x y : Identifier) → own x y ≡ true → IsOneOf x g → IsOneOf y g
      forth x y e p = let k = (units.1 x y).0 e in (r.whole g here x y p).1 (k.1, k.2)

      back : (x y : Identifier) → own x y ≡ true → IsOneOf y g → IsOneOf x g
      back x y e q = let k = (units.1 x y).0 e in (r.whole g here y x q).1 (k.0, SameUnit-sym ds k.2)

      not_finished : (x : Identifier) → IsOneOf x g → (b : Bool) → finished x ≡ b → b ≡ false
      not_finished x p true e = absurd ((o.0 x p).0 ((f x).0 e))
      not_finished x p false e = refl

      at : (x y : Identifier) → in_group g x ≡ true → BindingMentions x y ds → IsOneOf y (names ds) → (in_group g y ≡ true) ⊎ ((finished y ≡ true) ⊎ IsSigned y ds)
      at x y p m q = ⊎_elim
          (λ u. ⊎_elim (λ k. inl (holds-test (is_one_of y g) k)) (λ k. inr (inl ((f y).1 k))) ((o.0 x (test-holds (is_one_of x g) p)).1 y (mentioned_reach ds x y m u)))
          (λ i. inr (inr i)) (kind_of ds y q)

      ready : (D : Bindings) → ((x y : Identifier) → BindingMentions x y D → BindingMentions x y ds) → IsReady ds (names ds) finished (in_group g) D
      ready no_binding s = tt
      ready (unsigned x cs D) s = ((λ p y m q. at x y p (s x y (inl (refl, m))) q), ready D (λ v w m. s v w (inr m)))
      ready (signed x t cs D) s = ready D (λ v w m. s v w (inr m))
      ready (matched k b cs D) s = ((λ x i p y m q. at x y p (s x y (inl (i, m))) q), ready D (λ v w m. s v w (inr m)))

  pub layout_of : Layout ds
  layout_of = record {
    own = own;
    units = units;
    declared = declared_in ds;
    are_declared = are_declared_by (declared_in ds) ds distinct (λ x o. refl);
    are_closed = λ y a. declared_closed ds y a;
    groups = tests all_groups;
    order = ordered all_groups [] (λ x. false) (λ y. ((λ e. absurd (true≢false (sym e))), (λ h. absurd h))) (λ g o. o) (λ x u. inr (r.all x u)) r.in_order;
  }

  pub layout_tests : AreTestsOf (layout_of.groups) all_groups
  unfolding layout_of
  layout_tests = tests_of all_groups

-- Each list has groups

-- by references whose names between are among ks
abbrev Via : Bindings → List Identifier → Identifier → Identifier → Type 0
Via ds [] x y = RefersTo ds x y
Via ds (k ∷ ks) x y = Via ds ks x y ⊎ (Via ds ks x k × Via ds ks k y)

module _ (ds : Bindings) where
  via : (ks : List Identifier) (x y : Identifier) → Dec (Via ds ks x y)
  via [] x y = also (binding_mentions x y ds) (is_unsigned y ds)
  via (k ∷ ks) x y = Rattle.hm_typing.specs.Decisions.either (via ks x y) (also (via ks x k) (via ks k y))

  via_reaches : (ks : List Identifier) (x y : Identifier) → Via ds ks x y → Reaches ds x y
  via_reaches [] x y h = directly h
  via_reaches (k ∷ ks) x y (inl h) = via_reaches ks x y h
  via_reaches (k ∷ ks) x y (inr h) = Reaches-trans ds (via_reaches ks x k h.0) (via_reaches ks k y h.1)

  via_direct : (ks : List Identifier) (x y : Identifier) → RefersTo ds x y → Via ds ks x y
  via_direct [] x y r = r
  via_direct (k ∷ ks) x y r = inl (via_direct ks x y r)

  to_last : (ks : List Identifier) (k x : Identifier) → Via ds ks x k ⊎ (Via ds ks x k × Via ds ks k k) → Via ds ks x k
  to_last ks k x (inl h) = h
  to_last ks k x (inr h) = h.0

  from_last : (ks : List Identifier) (k y : Identifier) → Via ds ks k y ⊎ (Via ds ks k k × Via ds ks k y) → Via ds ks k y
  from_last ks k y (inl h) = h
  from_last ks k y (inr h) = h.1

  via_join : (ks : List Identifier) (x z y : Identifier) → IsOneOf z ks → Via ds ks x z → Via ds ks z y → Via ds ks x y
  via_join [] x z y o a b = absurd o
  via_join (k ∷ ks) x z y (inl e) a b = inr (
    subst (Via ds ks x) e (to_last' a),
    subst (λ v. Via ds ks v y) e (from_last' b),
  )
    where
      to_last' : Via ds (k ∷ ks) x z → Via ds ks x z
      to_last' h = subst (Via ds ks x) (sym e) (to_last ks k x (subst (λ v. Via ds ks x v ⊎ (Via ds ks x k × Via ds ks k v)) e h))

      from_last' : Via ds (k ∷ ks) z y → Via ds ks z y
      from_last' h = subst (λ v. Via ds ks v y) (sym e) (from_last ks k y (subst (λ v. Via ds ks v y ⊎ (Via ds ks v k × Via ds ks k y)) e h))
  via_join (k ∷ ks) x z y (inr o) (inl a) (inl b) = inl (via_join ks x z y o a b)
  via_join (k ∷ ks) x z y (inr o) (inl a) (inr b) = inr (via_join ks x z k o a b.0, b.1)
  via_join (k ∷ ks) x z y (inr o) (inr a) (inl b) = inr (a.0, via_join ks k z y o a.1 b)
  via_join (k ∷ ks) x z y (inr o) (inr a) (inr b) = inr (a.0, b.1)

  unsigned_names : Bindings → List Identifier
  unsigned_names no_binding = []
  unsigned_names (unsigned x cs D) = x ∷ unsigned_names D
  unsigned_names (signed x s cs D) = unsigned_names D
  unsigned_names (matched k p cs D) = matched_names k p ++ unsigned_names D

  is_unsigned_name : (D : Bindings) (x : Identifier) → IsUnsigned x D → IsOneOf x (unsigned_names D)
  unfolding unsigned_names
  is_unsigned_name no_binding x u = u
  is_unsigned_name (unsigned z cs D) x (inl e) = inl e
  is_unsigned_name (unsigned z cs D) x (inr u) = inr (is_unsigned_name D x u)
  is_unsigned_name (signed z s cs D) x u = is_unsigned_name D x u
  is_unsigned_name (matched k p cs D) x (inl o) = IsOneOf-left x (matched_names k p) (unsigned_names D) o
  is_unsigned_name (matched k p cs D) x (inr u) = IsOneOf-right x (matched_names k p) (unsigned_names D) (is_unsigned_name D x u)

  name_unsigned : (D : Bindings) (x : Identifier) → IsOneOf x (unsigned_names D) → IsUnsigned x D
  unfolding unsigned_names
  name_unsigned no_binding x u = u
  name_unsigned (unsigned z cs D) x (inl e) = inl e
  name_unsigned (unsigned z cs D) x (inr u) = inr (name_unsigned D x u)
  name_unsigned (signed z s cs D) x u = name_unsigned D x u
  name_unsigned (matched k p cs D) x o = ⊎_elim inl (λ q. inr (name_unsigned D x q)) (one_of x (matched_names k p) (unsigned_names D) o)

  abbrev us : List Identifier
  us = unsigned_names ds

  reaches_via : (x y : Identifier) → Reaches ds x y → Via ds us x y
  reaches_via x y (directly r) = via_direct us x y r
  reaches_via x z (through {y = w} r p) = via_join us x w z (is_unsigned_name ds w r.1) (via_direct us x w r) (reaches_via w z p)

  pub reaches : (x y : Identifier) → Dec (Reaches ds x y)
  reaches x y = elim (via us x y) [ yes h ↦ yes (via_reaches us x y h) | no n ↦ no (λ r. n (reaches_via x y r)) ]

  pub same_unit : (x y : Identifier) → Dec (SameUnit ds x y)
  same_unit x y = Rattle.hm_typing.specs.Decisions.either (name_discrete x y) (also (reaches x y) (reaches y x))

  -- a name of the list from which nothing is reached that does not reach it
  abbrev Least : List Identifier → Identifier → Identifier → Type 0
  Least xs m x = ((x ≡ m) ⊎ IsOneOf x xs) × ((x ≡ m) ⊎ Reaches ds m x) × ((y : Identifier) → (y ≡ m) ⊎ IsOneOf y xs → Reaches ds x y → Reaches ds y x)

  least : (m : Identifier) (xs : List Identifier) → (x : Identifier) × Least xs m x
  least m [] = (m, (inl refl, inl refl, λ y o r. ⊎_elim (λ e. subst (λ v. Reaches ds v m) (sym e) (subst (Reaches ds m) e r)) (λ k. absurd k) o))
  least m (z ∷ zs) = go (reaches m z) (reaches z m) (least z zs) (least m zs)
    where
      stay : (Reaches ds m z → Reaches ds z m) → (x : Identifier) × Least zs m x → (x : Identifier) × Least (z ∷ zs) m x
      stay f (x, l) = (
        x,
        (
          ⊎_elim inl (λ o. inr (inr o)) l.0,
          l.1,
          λ y o r. ⊎_elim (λ e. l.2 y (inl e) r) (λ k. ⊎_elim
              (λ e. subst (λ v. Reaches ds v x) (sym e) (back l.1 (subst (Reaches ds x) e r)))
              (λ h. l.2 y (inr h) r) k) o,
        ),
      )
        where
          back : (x ≡ m) ⊎ Reaches ds m x → Reaches ds x z → Reaches ds z x
          back (inl e) r = subst (Reaches ds z) (sym e) (f (subst (λ v. Reaches ds v z) e r))
          back (inr p) r = Reaches-trans ds (f (Reaches-trans ds p r)) p

      go : Dec (Reaches ds m z) → Dec (Reaches ds z m) → (x : Identifier) × Least zs z x → (x : Identifier) × Least zs m x → (x : Identifier) × Least (z ∷ zs) m x
      go (no n) d a b = stay (λ r. absurd (n r)) b
      go (yes r) (yes s) a b = stay (λ k. s) b
      go (yes r) (no n) (x, l) b = (
        x,
        (
          inr (⊎_elim inl inr l.0),
          inr (reach_x l.1),
          λ y o q. ⊎_elim (λ e. subst (λ v. Reaches ds v x) (sym e) (reach_x l.1)) (λ k. l.2 y k q) o,
        ),
      )
        where
          reach_x : (x ≡ z) ⊎ Reaches ds z x → Reaches ds m x
          reach_x (inl e) = subst (Reaches ds m) (sym e) r
          reach_x (inr p) = Reaches-trans ds r p

-- the members for which something is decided, fewer where it fails for one
abbrev pub Chosen : {X : Type 0} → (X → Type 0) → List X → List X → Type 0
Chosen {X} P xs zs = ((x : X) → IsOneOf x zs ↔ (IsOneOf x xs × P x)) × (length zs ≤ length xs) × ((x : X) → IsOneOf x xs → ¬ (P x) → length zs < length xs)

pub chosen : {X : Type 0} {P : X → Type 0} → ((x : X) → Dec (P x)) → (xs : List X) → (zs : List X) × Chosen P xs zs
chosen d [] = ([], ((λ x. ((λ o. absurd o), (λ o. absurd o.0))), omega arith, (λ x o n. absurd o)))
chosen {X} {P} d (y ∷ ys) = go (d y) (chosen d ys)
  where
    go : Dec (P y) → (zs : List X) × Chosen P ys zs → (zs : List X) × Chosen P (y ∷ ys) zs
    go (yes p) (zs, c) = (
      y ∷ zs,
      (
        (λ x. (
          (λ o. ⊎_elim (λ e. (inl e, subst P (sym e) p)) (λ k. let h = (c.0 x).0 k in (inr h.0, h.1)) o),
          (λ o. ⊎_elim inl (λ k. inr ((c.0 x).1 (k, o.1))) o.0),
        )),
        (let l = c.1 in omega arith),
        (λ x o n. ⊎_elim (λ e. absurd (n (subst P (sym e) p))) (λ k. let l = c.2 x k n in omega arith) o),
      ),
    )
    go (no n) (zs, c) = (
      zs,
      (
        (λ x. (
          (λ o. let h = (c.0 x).0 o in (inr h.0, h.1)),
          (λ o. ⊎_elim (λ e. absurd (n (subst P e o.1))) (λ k. (c.0 x).1 (k, o.1)) o.0),
        )),
        (let l = c.1 in omega arith),
        (λ x o m. let l = c.1 in omega arith),
      ),
    )

module _ (ds : Bindings) where
  abbrev Whole : List Identifier → Type 0
  Whole g = (x y : Identifier) → IsOneOf x g → IsOneOf y g ↔ (IsUnsigned y ds × SameUnit ds x y)

  -- the groups of what is left come after those before
  abbrev Rest : List (List Identifier) → List Identifier → Type 0
  Rest before left = (gs : List (List Identifier)) × ((x : Identifier) → IsOneOf x left → IsInSome x gs) × ((g : List Identifier) → IsOneOf g gs → Whole g) × ComeInOrder ds before gs

  -- what the groups of fewer names are made from
  abbrev Again : ℕ → Type 0
  Again fuel = (left : List Identifier) (before : List (List Identifier)) → length left ≤ fuel →
      ((x : Identifier) → IsOneOf x left ↔ (IsUnsigned x ds × ¬ (IsInSome x before))) → ((x y : Identifier) → IsInSome x before → Reaches ds x y → IsInSome y before) → Rest before left

  groups_of : (fuel : ℕ) (left : List Identifier) (before : List (List Identifier)) → length left ≤ fuel →
      ((x : Identifier) → IsOneOf x left ↔ (IsUnsigned x ds × ¬ (IsInSome x before))) → ((x y : Identifier) → IsInSome x before → Reaches ds x y → IsInSome y before) → Rest before left
  groups_of fuel [] before l f c = ([], (λ x o. absurd o), (λ g o. absurd o), tt)
  groups_of zero (m ∷ xs) before l f c = absurd (omega arith)
  groups_of (suc fuel) (m ∷ xs) before l f c = go (groups_of fuel) (least ds m xs)
    where
      go : Again fuel → (x : Identifier) × Least ds xs m x → Rest before (m ∷ xs)
      go again (x, k) = (
        g ∷ rest.0,
        (λ y o. split y o (same_unit ds x y)),
        (λ h o. ⊎_elim (λ e. subst Whole (sym e) whole) (λ p. rest.2 h p) o),
        ((λ y o. (absent y o, λ z r. after y o z r)), rest.3),
      )
        where
          x_left : IsOneOf x (m ∷ xs)
          x_left = k.0

          member : (zs : List Identifier) × Chosen (λ y. SameUnit ds x y) (m ∷ xs) zs
          member = chosen (same_unit ds x) (m ∷ xs)

          others : (zs : List Identifier) × Chosen (λ y. ¬ (SameUnit ds x y)) (m ∷ xs) zs
          others = chosen (λ y. denied (same_unit ds x y)) (m ∷ xs)

          g : List Identifier
          g = member.0

          in_unit : (y : Identifier) → IsOneOf y g → SameUnit ds x y
          in_unit y o = ((member.1.0 y).0 o).1

          -- the whole unit of x is left
          unit_left : (y : Identifier) → IsUnsigned y ds → SameUnit ds x y → IsOneOf y (m ∷ xs)
          unit_left y u s = (f y).1 (u, λ b. ((f x).0 x_left).1 (⊎_elim (λ e. subst (λ v. IsInSome v before) (sym e) b) (λ p. c y x b p.1) s))

          whole : Whole g
          whole y z o = (
            (λ p. let q = (member.1.0 z).0 p in (((f z).0 q.0).0, SameUnit-trans ds (SameUnit-sym ds (in_unit y o)) q.1)),
            (λ p. let s = SameUnit-trans ds (in_unit y o) p.1 in (member.1.0 z).1 (unit_left z p.0 s, s)),
          )

          absent : (y : Identifier) → IsOneOf y g → ¬ (IsInSome y before)
          absent y o = ((f y).0 ((member.1.0 y).0 o).0).1

          from_x : (y : Identifier) → SameUnit ds x y → (z : Identifier) → Reaches ds y z → Reaches ds x z
          from_x y (inl e) z r = subst (λ v. Reaches ds v z) (sym e) r
          from_x y (inr p) z r = Reaches-trans ds p.0 r

          after : (y : Identifier) → IsOneOf y g → (z : Identifier) → Reaches ds y z → IsOneOf z g ⊎ IsInSome z before
          after y o z r = at (is_in_some z before)
            where
              u : IsUnsigned z ds
              u = Reaches-unsigned ds r

              at : Dec (IsInSome z before) → IsOneOf z g ⊎ IsInSome z before
              at (yes b) = inr b
              at (no n) = let p = from_x y (in_unit y o) z r in let left = (f z).1 (u, n) in inl ((member.1.0 z).1 (left, inr (p, k.2 z left p)))

          fewer : length others.0 ≤ fuel
          fewer = let h = others.1.2 x x_left (λ n. n (inl refl)) in below h
            where
              below : length others.0 < length (m ∷ xs) → length others.0 ≤ fuel
              below h = omega arith

          rest : Rest (g ∷ before) others.0
          rest = again others.0 (g ∷ before) fewer
              (λ y. (
                (λ o. let q = (others.1.0 y).0 o in let w = (f y).0 q.0 in (w.0, λ b. ⊎_elim (λ i. q.1 (in_unit y i)) w.1 b)),
                (λ w. let left = (f y).1 (w.0, λ b. w.1 (inr b)) in (others.1.0 y).1 (left, λ s. w.1 (inl ((member.1.0 y).1 (left, s))))),
              ))
              (λ y z b r. ⊎_elim (λ o. ⊎_elim inl inr (after y o z r)) (λ h. inr (c y z h r)) b)

          split : (y : Identifier) → IsOneOf y (m ∷ xs) → Dec (SameUnit ds x y) → IsInSome y (g ∷ rest.0)
          split y o (yes s) = inl ((member.1.0 y).1 (o, s))
          split y o (no n) = inr (rest.1 y ((others.1.0 y).1 (o, n)))

  pub groups : (gs : List (List Identifier)) × AreGroups ds gs
  groups = (found.0, record { all = λ x u. found.1 x (is_unsigned_name ds ds x u); whole = λ g o. found.2 g o; in_order = found.3 })
    where
      found : Rest [] (unsigned_names ds ds)
      found = groups_of (length (unsigned_names ds ds)) (unsigned_names ds ds) [] (omega arith) (λ x. ((λ o. (name_unsigned ds ds x o, λ h. h)), (λ h. is_unsigned_name ds ds x h.0))) (λ x y b r. absurd b)

pub layout : (ds : Bindings) → IsDistinct (names ds) → Layout ds
layout ds d = let k = groups ds in layout_of ds d k.0 k.1
