-- The type faults of a list are found, and it is typed where there are none.
use Rattle.std.proofs.Common.{◌≡◌, ℕ, List, [], ◌∷◌, Bool, true, false, ◌||◌, inl, inr, ◌⊎◌, ⊎_elim, ◌↔◌, refl, sym, ap, ◌∙◌, subst, subst₂}
use Rattle.hm_types.specs.Types.{Var, put}
use Rattle.hm_typing.specs.Names.{Identifier, IsOneOf, IsDistinct}
use Rattle.hm_typing.specs.Schemes.{Monotype, Scheme, instance}
use Rattle.hm_typing.specs.Assumptions.{AreAtMostAsGeneral, Assumptions, bind_all, IsClosed, assumptions_put}
use Rattle.hm_typing.specs.Syntax.{Bindings, no_binding, unsigned, signed, matched, names}
use Rattle.hm_typing.specs.Units.{IsUnsigned, IsSigned, BindingMentions, Reaches, directly, through, SameUnit, DependsOn, AreUnits}
use Rattle.hm_typing.specs.Typing.{HasBindings}
use Rattle.hm_typing.specs.BindingLists.{HasSchemes}
use Rattle.hm_typing.specs.Verdicts.{UnitsHave, IsTypable, IsTypeFault, IsFirstIn, AreTypeFaults}
use Rattle.hm_typing.specs.SecondForm.{DeriveClauses, DeriveBindings, DerivedSchemes}
use Rattle.hm_typing.specs.Problems.{Fact, Unifies, MostGeneralUnifier, Answer, solved, unsolvable}
use Rattle.hm_typing.specs.Orders.{Layout, IsOrder}
use Rattle.hm_typing.proofs.Names.{name_discrete}
use Rattle.hm_typing.proofs.Bind.{bind_all-agree, is_one_of}
use Rattle.hm_typing.proofs.Put.{DeriveClauses-put}
use Rattle.hm_typing.proofs.Groups.{cond_false}
use Rattle.hm_typing.proofs.Bridge.{own_signed, one_kind, unsigned_name, signed_name}
use Rattle.hm_typing.proofs.Lists.{kind_of, same_units}
use Rattle.hm_typing.proofs.Infer.{each, check_clauses}
use Rattle.hm_typing.proofs.Principal.{assumptions_put_closed, DerivedUnits-Has}
use Rattle.hm_typing.proofs.Units.{DerivesOf, IsDown, mention_of}
use Rattle.hm_typing.proofs.Judge.{search_list, bools, opposite, Reaches-trans, Reaches-unsigned, Closure, reach_typed, Judged}
use Rattle.hm_typing.proofs.Mentioning.{also, denied, binding_mentions, is_unsigned}
use Rattle.hm_typing.proofs.Faults.{typable_more, SignedOf, SignedOf-weaker, SignedOf-all, judged_closed, derived_to, typable_to, typable_from}

-- Units

module _ (ds : Bindings) where
  pub SameUnit-sym : {x y : Identifier} → SameUnit ds x y → SameUnit ds y x
  SameUnit-sym (inl e) = inl (sym e)
  SameUnit-sym (inr p) = inr (p.1, p.0)

  pub SameUnit-trans : {x y z : Identifier} → SameUnit ds x y → SameUnit ds y z → SameUnit ds x z
  SameUnit-trans {x} {y} {z} (inl e) s = subst (λ v. SameUnit ds v z) (sym e) s
  SameUnit-trans {x} {y} {z} (inr p) (inl e) = subst (SameUnit ds x) e (inr p)
  SameUnit-trans {x} {y} {z} (inr p) (inr q) = inr (Reaches-trans ds p.0 q.0, Reaches-trans ds q.1 p.1)

  pub reach_from : {x z y : Identifier} → SameUnit ds x z → Reaches ds x y → Reaches ds z y
  reach_from {x} {z} {y} (inl e) r = subst (λ v. Reaches ds v y) e r
  reach_from {x} {z} {y} (inr p) r = Reaches-trans ds p.1 r

  pub depends_from : {x z y : Identifier} → SameUnit ds x z → DependsOn ds x y → DependsOn ds z y
  depends_from s d = (reach_from s d.0, λ t. d.1 (SameUnit-trans s t))

  module _ (own : Identifier → Identifier → Bool) (units : AreUnits ds own) where
    pub same_own : (x y : Identifier) → IsUnsigned y ds → SameUnit ds x y → own x y ≡ true
    same_own x y u (inl e) = (units.1 x y).1 (subst (λ z. IsUnsigned z ds) (sym e) u, u, inl e)
    same_own x y u (inr p) = (units.1 x y).1 (Reaches-unsigned ds p.1, u, inr p)

    pub own_same : (x y : Identifier) → own x y ≡ true → SameUnit ds x y
    own_same x y e = ((units.1 x y).0 e).2

    pub is_same_unit : (x y : Identifier) → Dec (SameUnit ds x y)
    is_same_unit x y = go (name_discrete x y) (bools (own x y))
      where
        go : Dec (x ≡ y) → (own x y ≡ true) ⊎ (own x y ≡ false) → Dec (SameUnit ds x y)
        go (yes e) b = yes (inl e)
        go (no n) (inl e) = yes (own_same x y e)
        go (no n) (inr e) = no (λ s. ⊎_elim n (λ p. opposite (same_own x y (Reaches-unsigned ds p.0) (inr p)) e) s)

    -- what a unit depends on, with what that mentions
    pub depends_down : (x : Identifier) → IsDown ds own (DependsOn ds x)
    depends_down x = record {
      mentioned = λ v y d m u. (
        Reaches-trans ds d.0 (directly (m, u)),
        λ s. d.1 (⊎_elim
            (λ e. inr (d.0, subst (Reaches ds v) (sym e) (directly (m, u))))
            (λ p. inr (d.0, through (m, u) p.1)) s),
      );
      whole = λ v y o d. let s = own_same v y o in (⊎_elim (λ e. subst (Reaches ds x) e d.0) (λ p. Reaches-trans ds d.0 p.0) s, λ t. d.1 (SameUnit-trans t (SameUnit-sym s)));
    }

    reaches_in_closure : (x y : Identifier) → Reaches ds x y → Closure ds x y
    reaches_in_closure x y r = go (is_same_unit x y)
      where
        go : Dec (SameUnit ds x y) → Closure ds x y
        go (yes s) = inr s
        go (no n) = inl (r, n)

    reached_by : (x y : Identifier) → Closure ds x y → (x ≡ y) ⊎ Reaches ds x y
    reached_by x y (inl d) = inr d.0
    reached_by x y (inr (inl e)) = inl e
    reached_by x y (inr (inr p)) = inr p.0

    pub closure_down : (x : Identifier) → IsDown ds own (Closure ds x)
    closure_down x = record {
      mentioned = λ v y c m u. ⊎_elim (λ e. reaches_in_closure x y (directly (subst (λ z. BindingMentions z y ds) (sym e) m, u))) (λ r. reaches_in_closure x y (Reaches-trans ds r (directly (m, u)))) (reached_by x v c);
      whole = λ v y o c. ⊎_elim (λ e. subst (Closure ds x) e c)
          (λ p. reaches_in_closure x y (⊎_elim (λ e. subst (λ z. Reaches ds z y) (sym e) p.0) (λ r. Reaches-trans ds r p.0) (reached_by x v c))) (own_same v y o);
    }

  -- Firsts

  pub first_listed : (x : Identifier) (ys : List Identifier) → IsFirstIn ds x ys → IsOneOf x ys
  first_listed x [] f = f
  first_listed x (y ∷ ys) (inl e) = inl e
  first_listed x (y ∷ ys) (inr f) = inr (first_listed x ys f.1)

  pub first_of : ((x y : Identifier) → Dec (SameUnit ds x y)) → (x : Identifier) (ys : List Identifier) → IsOneOf x ys → (z : Identifier) × IsFirstIn ds z ys × SameUnit ds x z
  first_of d x [] o = absurd o
  first_of d x (y ∷ ys) o = go (d x y) o (first_of d x ys)
    where
      go : Dec (SameUnit ds x y) → IsOneOf x (y ∷ ys) → (IsOneOf x ys → (z : Identifier) × IsFirstIn ds z ys × SameUnit ds x z) → (z : Identifier) × IsFirstIn ds z (y ∷ ys) × SameUnit ds x z
      go (yes s) p ih = (y, inl refl, s)
      go (no n) (inl e) ih = absurd (n (inl e))
      go (no n) (inr p) ih = let k = ih p in (k.0, inr ((λ s. n (SameUnit-trans k.2 s)), k.1), k.2)

  pub is_first : ((x y : Identifier) → Dec (SameUnit ds x y)) → (x : Identifier) (ys : List Identifier) → Dec (IsFirstIn ds x ys)
  is_first d x [] = no (λ f. f)
  is_first d x (y ∷ ys) = Rattle.hm_typing.specs.Decisions.either (name_discrete x y) (also (denied (d x y)) (is_first d x ys))

-- the members for which something is decided
pub selected : {P : Identifier → Type 0} → ((x : Identifier) → Dec (P x)) → (xs : List Identifier) → (zs : List Identifier) × ((x : Identifier) → IsOneOf x zs ↔ (IsOneOf x xs × P x))
selected d [] = ([], λ x. ((λ o. absurd o), (λ o. absurd o.0)))
selected {P} d (y ∷ ys) = go (d y) (selected d ys)
  where
    go : Dec (P y) → (zs : List Identifier) × ((x : Identifier) → IsOneOf x zs ↔ (IsOneOf x ys × P x)) → (zs : List Identifier) × ((x : Identifier) → IsOneOf x zs ↔ (IsOneOf x (y ∷ ys) × P x))
    go (yes p) r = (
      y ∷ r.0,
      λ x. (
        (λ o. ⊎_elim (λ e. (inl e, subst P (sym e) p)) (λ k. let h = (r.1 x).0 k in (inr h.0, h.1)) o),
        (λ o. ⊎_elim inl (λ k. inr ((r.1 x).1 (k, o.1))) o.0),
      ),
    )
    go (no n) r = (
      r.0,
      λ x. (
        (λ o. let h = (r.1 x).0 o in (inr h.0, h.1)),
        (λ o. ⊎_elim (λ e. absurd (n (subst P e o.1))) (λ k. (r.1 x).1 (k, o.1)) o.0),
      ),
    )

-- Sets of units

pub UnitsHave-weaker : (D : Bindings) (U V : Identifier → Type 0) (A : Assumptions) (sees : Identifier → Assumptions) (ts : Identifier → Monotype) (B : Identifier → Scheme) → ((y : Identifier) → V y → U y) → UnitsHave U A sees ts B D → UnitsHave V A sees ts B D
UnitsHave-weaker no_binding U V A sees ts B f d = tt
UnitsHave-weaker (unsigned x cs D) U V A sees ts B f d = ((λ v. d.0 (f x v)), UnitsHave-weaker D U V A sees ts B f d.1)
UnitsHave-weaker (signed x s cs D) U V A sees ts B f d = ((d.0.0, λ v. d.0.1 (f x v)), UnitsHave-weaker D U V A sees ts B f d.1)
UnitsHave-weaker (matched k p cs D) U V A sees ts B f d = ((λ v. d.0 (f k v)), UnitsHave-weaker D U V A sees ts B f d.1)

pub typable_weaker : (A : Assumptions) (ds : Bindings) (U V : Identifier → Type 0) → ((y : Identifier) → V y → U y) → IsTypable A ds U → IsTypable A ds V
typable_weaker A ds U V f p = record {
  schemes = p.schemes;
  are_closed = p.are_closed;
  units = record { own = p.units.own; units = p.units.units; types = p.units.types; bindings = UnitsHave-weaker ds U V A _ p.units.types p.schemes f p.units.bindings };
}

-- each name of a unit is a fault where one is
pub fault_from : (A : Assumptions) (ds : Bindings) (x z : Identifier) → SameUnit ds x z → IsTypeFault A ds x → IsTypeFault A ds z
fault_from A ds x z s p = (
  typable_weaker A ds (DependsOn ds x) (DependsOn ds z) (λ y d. depends_from ds (SameUnit-sym ds s) d) p.0,
  λ q. p.1 (typable_weaker A ds (Closure ds z) (Closure ds x) (λ y c. ⊎_elim (λ d. inl (depends_from ds s d)) (λ t. inr (SameUnit-trans ds (SameUnit-sym ds s) t)) c) q),
)

whole_list : (D : Bindings) (A : Assumptions) (sees : Identifier → Assumptions) (ts : Identifier → Monotype) (B : Identifier → Scheme) → UnitsHave (λ y. Unit {0}) A sees ts B D → HasBindings A sees ts B D
whole_list no_binding A sees ts B h = tt
whole_list (unsigned x cs D) A sees ts B h = (h.0 tt, whole_list D A sees ts B h.1)
whole_list (signed x s cs D) A sees ts B h = ((h.0.0, h.0.1 tt), whole_list D A sees ts B h.1)
whole_list (matched k p cs D) A sees ts B h = (h.0 tt, whole_list D A sees ts B h.1)

pub typed_whole : (A : Assumptions) (ds : Bindings) → IsTypable A ds (λ y. Unit {0}) → (B : Identifier → Scheme) × HasSchemes A ds B
typed_whole A ds p = (p.schemes, record { own = p.units.own; units = p.units.units; types = p.units.types; bindings = whole_list ds A _ p.units.types p.schemes p.units.bindings })

derives_all : (D : Bindings) (A : Assumptions) (own : Identifier → Identifier → Bool) (xs : List Identifier) (B : Identifier → Scheme) → DeriveBindings A own xs B D → DerivesOf (λ y. Unit {0}) A own xs B D
derives_all no_binding A own xs B d = tt
derives_all (unsigned x cs D) A own xs B d = ((λ u. d.0), derives_all D A own xs B d.1)
derives_all (signed x s cs D) A own xs B d = (d.0.0, derives_all D A own xs B d.1)
derives_all (matched k p cs D) A own xs B d = ((λ u. d.0), derives_all D A own xs B d.1)

signed_all : (D : Bindings) (A : Assumptions) (own : Identifier → Identifier → Bool) (xs : List Identifier) (B : Identifier → Scheme) → ((x y : Identifier) → IsSigned x D → own x y ≡ false) → DeriveBindings A own xs B D → SignedOf (λ y. Unit {0}) (bind_all xs B A) D
signed_all no_binding A own xs B f d = tt
signed_all (unsigned x cs D) A own xs B f d = signed_all D A own xs B f d.1
signed_all (matched k p cs D) A own xs B f d = signed_all D A own xs B f d.1
signed_all (signed x s cs D) A own xs B f d = (
  (λ u us. subst₂ (λ C v. DeriveClauses C cs v) (bind_all-agree xs _ _ A A (λ y o. cond_false (own x y) _ _ (f x y (inl refl))) refl) (ap (λ σ. instance σ us) d.0.0 ∙ Rattle.hm_typing.proofs.Bind.instance_closed s us) (d.0.1 us)),
  signed_all D A own xs B (λ y z i. f y z (inr i)) d.1,
)

module _ (solve : (E : List Fact) → MostGeneralUnifier E ⊎ ((r : ℕ → Monotype) → Unifies r E → ⊥)) (layout : (ds : Bindings) → IsDistinct (names ds) → Layout ds) where
  -- an answer decides what doesn't hang on the unifier
  decided : {P : (ℕ → Monotype) → Type 0} (n : ℕ) → ((r q : ℕ → Monotype) → P r → P q) → Answer P n [] → Dec (P Var)
  decided n f (unsolvable never) = no (λ p. never Var tt p)
  decided {P} n f (solved n1 E1 s) = go (solve E1)
    where
      go : MostGeneralUnifier E1 ⊎ ((r : ℕ → Monotype) → Unifies r E1 → ⊥) → Dec (P Var)
      go (inl m) = yes (f m.map Var (s.sound m.map m.unifies).1)
      go (inr never) = no (λ p. let c = s.complete Var tt p in never c.0 c.2)

  module _ (C : Assumptions) (shutC : IsClosed C) where
    signed_decided : (x : Identifier) (D : Bindings) → Dec (SignedOf (λ y. x ≡ y) C D)
    signed_decided x no_binding = yes tt
    signed_decided x (unsigned z cs D) = signed_decided x D
    signed_decided x (matched k p cs D) = signed_decided x D
    signed_decided x (signed z s cs D) = also (go (name_discrete x z)) (signed_decided x D)
      where
        at : Dec ((us : ℕ → Monotype) → DeriveClauses (assumptions_put Var C) cs (put us s))
        at = decided {P = λ r. (us : ℕ → Monotype) → DeriveClauses (assumptions_put r C) cs (put us s)} 0
            (λ r q p us. subst (λ Γ. DeriveClauses Γ cs (put us s)) (assumptions_put_closed r C shutC ∙ sym (assumptions_put_closed q C shutC)) (p us))
            (each solve (λ Γ v. DeriveClauses Γ cs v) (DeriveClauses-put cs) s C 0 [] (λ a f. absurd (shutC a f)) tt (λ v m F. check_clauses solve layout cs C v m F))

        go : Dec (x ≡ z) → Dec (x ≡ z → (us : ℕ → Monotype) → DeriveClauses C cs (put us s))
        go (no n) = yes (λ e. absurd (n e))
        go (yes e) = elim at [
          | yes d ↦ yes (λ k us. subst (λ Γ. DeriveClauses Γ cs (put us s)) (assumptions_put_closed Var C shutC) (d us))
          | no n ↦ no (λ d. n (λ us. subst (λ Γ. DeriveClauses Γ cs (put us s)) (sym (assumptions_put_closed Var C shutC)) (d e us)))
        ]

  module _ (ds : Bindings) (own : Identifier → Identifier → Bool) (units : AreUnits ds own) (A : Assumptions) (shutA : IsClosed A) (j : Judged ds A own) where
    -- what is next to the unit of x
    abbrev Outside : Identifier → Identifier → Identifier → Type 0
    Outside x v y = (SameUnit ds x v × BindingMentions v y ds) × IsUnsigned y ds × (own x y ≡ false) × (j.status y ≡ false)

    outside_at : (x v y : Identifier) → (SameUnit ds x v → BindingMentions v y ds → IsUnsigned y ds → own x y ≡ false → j.status y ≡ true) ⊎ Outside x v y
    outside_at x v y = go (bools (j.status y)) (bools (own x y)) (also (is_same_unit ds own units x v) (binding_mentions v y ds)) (is_unsigned y ds)
      where
        go : (j.status y ≡ true) ⊎ (j.status y ≡ false) → (own x y ≡ true) ⊎ (own x y ≡ false) → Dec (SameUnit ds x v × BindingMentions v y ds) → Dec (IsUnsigned y ds) →
            (SameUnit ds x v → BindingMentions v y ds → IsUnsigned y ds → own x y ≡ false → j.status y ≡ true) ⊎ Outside x v y
        go (inl s) b m u = inl (λ p q r o. s)
        go (inr s) (inl b) m u = inl (λ p q r o. absurd (opposite b o))
        go (inr s) (inr b) (no n) u = inl (λ p q r o. absurd (n (p, q)))
        go (inr s) (inr b) (yes m) (no n) = inl (λ p q r o. absurd (n r))
        go (inr s) (inr b) (yes m) (yes u) = inr (m, u, b, s)

    -- all that x depends on is typed, or something isn't
    dependencies : (x : Identifier) → IsOneOf x (names ds) → ((y : Identifier) → DependsOn ds x y → j.status y ≡ true) ⊎ ((y : Identifier) × DependsOn ds x y × IsUnsigned y ds × (j.status y ≡ false))
    dependencies x o = go (search_list {P = λ v. (y : Identifier) → IsOneOf y (names ds) → SameUnit ds x v → BindingMentions v y ds → IsUnsigned y ds → own x y ≡ false → j.status y ≡ true} {Q = λ v. (y : Identifier) × Outside x v y} (names ds) (λ v. search_list (names ds) (λ y. outside_at x v y)))
      where
        member : (v : Identifier) → SameUnit ds x v → IsOneOf v (names ds)
        member v (inl e) = subst (λ z. IsOneOf z (names ds)) e o
        member v (inr p) = unsigned_name ds v (Reaches-unsigned ds p.0)

        path : ((v : Identifier) → IsOneOf v (names ds) → (y : Identifier) → IsOneOf y (names ds) → SameUnit ds x v → BindingMentions v y ds → IsUnsigned y ds → own x y ≡ false → j.status y ≡ true) →
            {v z : Identifier} → SameUnit ds x v → Reaches ds v z → own x z ≡ false → j.status z ≡ true
        path free {v} {z} s (directly r) b = free v (member v s) z (unsigned_name ds z r.1) s r.0 r.1 b
        path free {v} {z} s (through {y = w} r p) b = next (λ t. path free t p b) (bools (own x w))
          where
            next : (SameUnit ds x w → j.status z ≡ true) → (own x w ≡ true) ⊎ (own x w ≡ false) → j.status z ≡ true
            next ih (inl e) = ih (own_same ds own units x w e)
            next ih (inr e) = reach_typed ds own j.status j.state.down (free v (member v s) w (unsigned_name ds w r.1) s r.0 r.1 e) p

        go : ((v : Identifier) → IsOneOf v (names ds) → (y : Identifier) → IsOneOf y (names ds) → SameUnit ds x v → BindingMentions v y ds → IsUnsigned y ds → own x y ≡ false → j.status y ≡ true) ⊎ ((v : Identifier) × ((y : Identifier) × Outside x v y)) →
            ((y : Identifier) → DependsOn ds x y → j.status y ≡ true) ⊎ ((y : Identifier) × DependsOn ds x y × IsUnsigned y ds × (j.status y ≡ false))
        go (inl free) = inl (λ y d. ⊎_elim (λ e. absurd (d.1 (own_same ds own units x y e))) (λ e. path free (inl refl) d.0 e) (bools (own x y)))
        go (inr h) =
            let k = h.1.1 in
            let y = h.1.0 in
            inr (y, (reach_from ds (SameUnit-sym ds k.0.0) (directly (k.0.1, k.1)), λ s. opposite (same_own ds own units x y k.1 s) k.2), k.1, k.3)

    none_signed : (U : Identifier → Type 0) (C : Assumptions) → ((y : Identifier) → U y → IsUnsigned y ds) → SignedOf U C ds
    none_signed U C f = SignedOf-all ds U C (λ y i u. absurd (one_kind ds units.0 y i (f y u)))

    depends_unsigned : (x y : Identifier) → DependsOn ds x y → IsUnsigned y ds
    depends_unsigned x y d = Reaches-unsigned ds d.0

    pub dependencies_typable : (x : Identifier) → IsOneOf x (names ds) → Dec (IsTypable A ds (DependsOn ds x))
    dependencies_typable x o = go (dependencies x o)
      where
        go : ((y : Identifier) → DependsOn ds x y → j.status y ≡ true) ⊎ ((y : Identifier) × DependsOn ds x y × IsUnsigned y ds × (j.status y ≡ false)) → Dec (IsTypable A ds (DependsOn ds x))
        go (inl f) = yes (typable_from ds own units A shutA j (DependsOn ds x) (λ y i d. f y d) (none_signed (DependsOn ds x) _ (depends_unsigned x)))
        go (inr k) = no (λ p. opposite ((typable_to ds own units A shutA j (DependsOn ds x) (depends_down ds own units x) p).0 k.0 k.2 k.1) k.3)

    pub unit_typable : (x : Identifier) → IsOneOf x (names ds) → Dec (IsTypable A ds (Closure ds x))
    unit_typable x o = ⊎_elim unsigned_one signed_one (kind_of ds x o)
      where
        unsigned_one : IsUnsigned x ds → Dec (IsTypable A ds (Closure ds x))
        unsigned_one u = ⊎_elim
            (λ s. yes (typable_from ds own units A shutA j (Closure ds x)
            (λ y i c. ⊎_elim (λ e. subst (λ z. j.status z ≡ true) e s) (λ r. reach_typed ds own j.status j.state.down s r) (reached_by ds own units x y c))
            (none_signed (Closure ds x) _ (λ y c. ⊎_elim (λ e. subst (λ z. IsUnsigned z ds) e u) (λ r. Reaches-unsigned ds r) (reached_by ds own units x y c)))))
            (λ s. no (λ p. opposite ((typable_to ds own units A shutA j (Closure ds x) (closure_down ds own units x) p).0 x u (inr (inl refl))) s))
            (bools (j.status x))

        signed_one : IsSigned x ds → Dec (IsTypable A ds (Closure ds x))
        signed_one i = go (dependencies x o) (signed_decided (bind_all (names ds) j.schemes A) (judged_closed ds own units A shutA j) x ds)
          where
            alone : (y : Identifier) → SameUnit ds x y → x ≡ y
            alone y (inl e) = e
            alone y (inr p) = absurd (one_kind ds units.0 x i (Reaches-unsigned ds p.1))

            go : ((y : Identifier) → DependsOn ds x y → j.status y ≡ true) ⊎ ((y : Identifier) × DependsOn ds x y × IsUnsigned y ds × (j.status y ≡ false)) → Dec (SignedOf (λ y. x ≡ y) (bind_all (names ds) j.schemes A) ds) → Dec (IsTypable A ds (Closure ds x))
            go (inr k) d = no (λ p. opposite ((typable_to ds own units A shutA j (Closure ds x) (closure_down ds own units x) p).0 k.0 k.2 (inl k.1)) k.3)
            go (inl f) (no n) = no (λ p. n (SignedOf-weaker ds (Closure ds x) (λ y. x ≡ y) _ (λ y e. inr (inl e)) (typable_to ds own units A shutA j (Closure ds x) (closure_down ds own units x) p).1))
            go (inl f) (yes h) = yes (typable_from ds own units A shutA j (Closure ds x)
                (λ y u c. ⊎_elim (λ d. f y d) (λ s. absurd (one_kind ds units.0 x i (subst (λ z. IsUnsigned z ds) (sym (alone y s)) u))) c)
                (SignedOf-all ds (Closure ds x) _ (λ y k c. ⊎_elim (λ d. absurd (one_kind ds units.0 y k (depends_unsigned x y d))) (λ s. subst (λ z. SignedOf (λ w. z ≡ w) (bind_all (names ds) j.schemes A) ds) (alone y s) h) c)))

    pub is_fault : (x : Identifier) → IsOneOf x (names ds) → Dec (IsTypeFault A ds x)
    is_fault x o = also (dependencies_typable x o) (denied (unit_typable x o))

    pub faults : (xs : List Identifier) × AreTypeFaults A ds xs
    faults = (chosen.0, λ x. ((λ o. ((chosen.1 x).0 o).1), (λ p. (chosen.1 x).1 (first_listed ds x (names ds) p.0, p))))
      where
        decide : (x : Identifier) → Dec (IsFirstIn ds x (names ds) × IsTypeFault A ds x)
        decide x = elim (is_first ds (is_same_unit ds own units) x (names ds)) [
          | no n ↦ no (λ p. n p.0)
          | yes f ↦ elim (is_fault x (first_listed ds x (names ds) f)) [ yes p ↦ yes (f, p) | no n ↦ no (λ p. n p.1) ]
        ]

        chosen : (zs : List Identifier) × ((x : Identifier) → IsOneOf x zs ↔ (IsOneOf x (names ds) × (IsFirstIn ds x (names ds) × IsTypeFault A ds x)))
        chosen = selected {P = λ x. IsFirstIn ds x (names ds) × IsTypeFault A ds x} decide (names ds)

    -- where the list is typed no unit is a fault
    pub no_fault : (B : Identifier → Scheme) → HasSchemes A ds B → (x : Identifier) → ¬ (IsTypeFault A ds x)
    no_fault B l x p = p.1 (typable_from ds own units A shutA j (Closure ds x) (λ y i c. k.0 y i tt) (SignedOf-weaker ds (λ y. Unit {0}) (Closure ds x) _ (λ y c. tt) k.1))
      where
        d : DerivedSchemes A ds B
        d = DerivedUnits-Has ds A B l

        shifted : DeriveBindings A own (names ds) B ds
        shifted = subst (λ o. DeriveBindings A o (names ds) B ds) (same_units ds own d.own units d.units) d.bindings

        k : ((y : Identifier) → IsUnsigned y ds → Unit {0} → j.status y ≡ true) × SignedOf (λ y. Unit {0}) (bind_all (names ds) j.schemes A) ds
        k = derived_to ds own units A shutA j (λ y. Unit {0}) B (record { mentioned = λ v y u m i. tt; whole = λ v y e u. tt }) (derives_all ds A own (names ds) B shifted) (signed_all ds A own (names ds) B (λ v y i. own_signed ds own units v y i) shifted)

    module _ (none : (x : Identifier) → ¬ (IsFirstIn ds x (names ds) × IsTypeFault A ds x)) where
      nowhere : (x : Identifier) → IsOneOf x (names ds) → ¬ (IsTypeFault A ds x)
      nowhere x o p = let k = first_of ds (is_same_unit ds own units) x (names ds) o in none k.0 (k.1, fault_from A ds x k.0 k.2 p)

      -- so a unit is typable where all that it depends on is
      then_typable : (x : Identifier) (o : IsOneOf x (names ds)) → ((y : Identifier) → DependsOn ds x y → j.status y ≡ true) → IsTypable A ds (Closure ds x)
      then_typable x o f = elim (unit_typable x o) [
        | yes p ↦ p
        | no n ↦ absurd (nowhere x o (typable_from ds own units A shutA j (DependsOn ds x) (λ y i d. f y d) (none_signed (DependsOn ds x) _ (depends_unsigned x)), n))
      ]

      all_typed : (gs : List (Identifier → Bool)) (finished : Identifier → Bool) → IsOrder ds own finished gs → ((x : Identifier) → finished x ≡ true → j.status x ≡ true) → (x : Identifier) → IsUnsigned x ds → j.status x ≡ true
      all_typed [] finished done f x u = f x (done x u)
      all_typed (g ∷ gs) finished o f x u = all_typed gs (λ y. finished y || g y) o.1 (λ y e. ⊎_elim (f y) (in_group y) (either_true (finished y) (g y) e)) x u
        where
          either_true : (a b : Bool) → (a || b) ≡ true → (a ≡ true) ⊎ (b ≡ true)
          either_true true b e = inl refl
          either_true false b e = inr e

          -- from a member of the group only members are reached, or what is typed
          walk : {v z : Identifier} → g v ≡ true → Reaches ds v z → (g z ≡ true) ⊎ (j.status z ≡ true)
          walk {v} {z} gv (directly r) = ⊎_elim inl (λ k. ⊎_elim (λ e. inr (f z e)) (λ i. absurd (one_kind ds units.0 z i r.1)) k) (mention_of ds A own units finished g o.0 v z gv r.0 (unsigned_name ds z r.1))
          walk {v} {z} gv (through {y = w} r p) = next (λ gw. walk gw p) (mention_of ds A own units finished g o.0 v w gv r.0 (unsigned_name ds w r.1))
            where
              next : (g w ≡ true → (g z ≡ true) ⊎ (j.status z ≡ true)) → (g w ≡ true) ⊎ ((finished w ≡ true) ⊎ IsSigned w ds) → (g z ≡ true) ⊎ (j.status z ≡ true)
              next ih (inl gw) = ih gw
              next ih (inr (inl e)) = inr (reach_typed ds own j.status j.state.down (f w e) p)
              next ih (inr (inr i)) = absurd (one_kind ds units.0 w i r.1)

          in_group : (y : Identifier) → g y ≡ true → j.status y ≡ true
          in_group y gy =
              let own_y = o.0.unit y y gy gy in
              let uy = ((units.1 y y).0 own_y).0 in
              (typable_to ds own units A shutA j (Closure ds y) (closure_down ds own units y)
              (then_typable y (unsigned_name ds y uy) (λ z d. ⊎_elim (λ gz. absurd (d.1 (own_same ds own units y z (o.0.unit y z gy gz)))) (λ s. s) (walk gy d.0)))).0 y uy (inr (inl refl))

      pub typed_without_faults : (gs : List (Identifier → Bool)) → IsOrder ds own (λ x. false) gs → (B : Identifier → Scheme) × HasSchemes A ds B
      typed_without_faults gs order = typed_whole A ds (typable_from ds own units A shutA j (λ y. Unit {0}) (λ y i u. every y i)
          (SignedOf-all ds (λ y. Unit {0}) _ (λ x i u. SignedOf-weaker ds (Closure ds x) (λ y. x ≡ y) _ (λ y e. inr (inl e))
          (typable_to ds own units A shutA j (Closure ds x) (closure_down ds own units x) (then_typable x (signed_name ds x i) (λ y d. every y (depends_unsigned x y d)))).1)))
        where
          every : (y : Identifier) → IsUnsigned y ds → j.status y ≡ true
          every = all_typed gs (λ x. false) order (λ x e. absurd (opposite e refl))

-- The type faults are the same under assumptions that are equally general.

pub faults_under : (ds : Bindings) (own : Identifier → Identifier → Bool) → AreUnits ds own → (A A' : Assumptions) → IsClosed A → IsClosed A' → AreAtMostAsGeneral A A' → AreAtMostAsGeneral A' A → (xs : List Identifier) → AreTypeFaults A ds xs → AreTypeFaults A' ds xs
faults_under ds own units A A' shutA shutA' m m' xs f x = ((λ o. let k = (f x).0 o in (k.0, there k.1)), (λ k. (f x).1 (k.0, back k.1)))
  where
    there : IsTypeFault A ds x → IsTypeFault A' ds x
    there k = (
      typable_more ds own units A A' shutA shutA' m (DependsOn ds x) (depends_down ds own units x) k.0,
      λ q. k.1 (typable_more ds own units A' A shutA' shutA m' (Closure ds x) (closure_down ds own units x) q),
    )

    back : IsTypeFault A' ds x → IsTypeFault A ds x
    back k = (
      typable_more ds own units A' A shutA' shutA m' (DependsOn ds x) (depends_down ds own units x) k.0,
      λ q. k.1 (typable_more ds own units A A' shutA shutA' m (Closure ds x) (closure_down ds own units x) q),
    )
