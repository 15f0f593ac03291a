-- Which units are type faults is decided, and a list is typed where none is.
use Rattle.std.proofs.Common.{◌≡◌, ℕ, List, Bool, true, false, cond, inl, inr, ⊎_elim, refl, sym, ap, ◌∙◌, subst, subst₂, ◌+◌}
use Rattle.hm_types.specs.Types.{In, put}
use Rattle.hm_typing.specs.Names.{Identifier, IsOneOf}
use Rattle.hm_typing.specs.Schemes.{Monotype, Scheme, Free, instance, IsAtMostAsGeneral}
use Rattle.hm_typing.specs.Assumptions.{AreAtMostAsGeneral, Assumptions, bind_all, IsClosed}
use Rattle.hm_typing.specs.Decisions.{is_free_in}
use Rattle.hm_typing.specs.Generalisation.{quantify}
use Rattle.hm_typing.specs.Syntax.{Bindings, no_binding, unsigned, signed, matched, names}
use Rattle.hm_typing.specs.Units.{IsUnsigned, IsSigned, BindingMentions, seen, AreUnits}
use Rattle.hm_typing.specs.Typing.{InUnits}
use Rattle.hm_typing.specs.Verdicts.{UnitsHave, IsTypable}
use Rattle.hm_typing.specs.SecondForm.{DeriveClauses, seen_at}
use Rattle.hm_typing.proofs.SchemeLaws.{assumptions_bound, AssumptionsBelow}
use Rattle.hm_typing.proofs.Quantified.{opened, In_quantify}
use Rattle.hm_typing.proofs.Bind.{Has-bind_all, bind_all-agree, FreeIn-bind_all, FreeIn-bind_all-in, FreeIn-bind_all-out}
use Rattle.hm_typing.proofs.More.{DeriveClauses-more}
use Rattle.hm_typing.proofs.Put.{DeriveClauses-put}
use Rattle.hm_typing.proofs.Groups.{cond_false}
use Rattle.hm_typing.proofs.Matching.{own_name, together}
use Rattle.hm_typing.proofs.Bridge.{more-all, fresh, remade, general_remade, general_seen, is_new, index, put_new, own_unsigned, own_signed, env_signed, HasClauses-Derives, DeriveClauses-Has}
use Rattle.hm_typing.proofs.Lists.{kind_of, same_units}
use Rattle.hm_typing.proofs.Units.{AreClosed, DerivesOf, IsDown, declared_same}
use Rattle.hm_typing.proofs.Judge.{quantified_of, derives_of, Judged}

-- the signed bindings of the names in U have their declared types under C
abbrev pub SignedOf : (Identifier → Type 0) → Assumptions → Bindings → Type 0
SignedOf U C no_binding = Unit {0}
SignedOf U C (unsigned x cs D) = SignedOf U C D
SignedOf U C (signed x s cs D) = (U x → (us : ℕ → Monotype) → DeriveClauses C cs (put us s)) × SignedOf U C D
SignedOf U C (matched k p cs D) = SignedOf U C D

pub SignedOf-weaker : (D : Bindings) (U V : Identifier → Type 0) (C : Assumptions) → ((y : Identifier) → V y → U y) → SignedOf U C D → SignedOf V C D
SignedOf-weaker no_binding U V C f d = tt
SignedOf-weaker (unsigned x cs D) U V C f d = SignedOf-weaker D U V C f d
SignedOf-weaker (signed x s cs D) U V C f d = ((λ v. d.0 (f x v)), SignedOf-weaker D U V C f d.1)
SignedOf-weaker (matched k p cs D) U V C f d = SignedOf-weaker D U V C f d

-- from each name alone
pub SignedOf-all : (D : Bindings) (U : Identifier → Type 0) (C : Assumptions) → ((x : Identifier) → IsSigned x D → U x → SignedOf (λ y. x ≡ y) C D) → SignedOf U C D
SignedOf-all no_binding U C f = tt
SignedOf-all (unsigned x cs D) U C f = SignedOf-all D U C (λ y i u. f y i u)
SignedOf-all (signed x s cs D) U C f = ((λ u. (f x (inl refl) u).0 refl), SignedOf-all D U C (λ y i u. (f y (inr i) u).1))
SignedOf-all (matched k p cs D) U C f = SignedOf-all D U C (λ y i u. f y i u)

-- under assumptions that have more of what is mentioned
pub SignedOf-more : (D : Bindings) (U : Identifier → Type 0) (xs : List Identifier) (A : Assumptions) (B B' : Identifier → Scheme) →
    ((x y : Identifier) → U x → BindingMentions x y D → IsOneOf y xs → IsAtMostAsGeneral (B y) (B' y)) → SignedOf U (bind_all xs B A) D → SignedOf U (bind_all xs B' A) D
SignedOf-more no_binding U xs A B B' f d = tt
SignedOf-more (unsigned x cs D) U xs A B B' f d = SignedOf-more D U xs A B B' (λ y z u m. f y z u (inr m)) d
SignedOf-more (matched k p cs D) U xs A B B' f d = SignedOf-more D U xs A B B' (λ y z u m. f y z u (inr m)) d
SignedOf-more (signed x s cs D) U xs A B B' f d = (
  (λ u us. DeriveClauses-more cs _ _ _ (λ y i t h. Has-bind_all xs B B' A A y (λ o v. f x y u (inl (refl, i)) o v) (λ o v k. k) t h) (d.0 u us)),
  SignedOf-more D U xs A B B' (λ y z u m. f y z u (inr m)) d.1,
)

module _ (ds : Bindings) (own : Identifier → Identifier → Bool) (units : AreUnits ds own) (A : Assumptions) (shutA : IsClosed A) where
  -- the signed bindings, from the first form
  pub signed_of : (U : Identifier → Type 0) (D : Bindings) (ts : Identifier → Monotype) (B : Identifier → Scheme) → AreClosed B → ((y : Identifier) → IsSigned y D → IsSigned y ds) →
      UnitsHave U A (λ x. bind_all (names ds) (seen own ts B x) A) ts B D → SignedOf U (bind_all (names ds) B A) D
  signed_of U no_binding ts B shut sub b = tt
  signed_of U (unsigned x cs D) ts B shut sub b = signed_of U D ts B shut sub b.1
  signed_of U (matched k p cs D) ts B shut sub b = signed_of U D ts B shut sub b.1
  signed_of U (signed x s cs D) ts B shut sub b = (
    (λ u us.
        let h = b.0.1 u in
        let off : (y : Identifier) → own x y ≡ false = λ y. own_signed ds own units x y (sub x (inl refl)) in
        subst₂ (λ C v. DeriveClauses C cs v)
        (env_signed own ts B x (names ds) A (λ i. us (index s h.variables i)) us (λ y o a i. absurd (shut y a i)) off
        ∙ bind_all-agree (names ds) _ _ A A (λ y o. cond_false (own x y) _ _ (off y)) refl)
        (put_new A s h.variables h.are_new us)
        (DeriveClauses-put cs (λ a. opened (is_free_in a A) (λ i. us (index s h.variables i)) a) _ _ (DeriveClauses-Has cs _ _ h.typed))),
    signed_of U D ts B shut (λ y i. sub y (inr i)) b.1,
  )

  -- and back: the bindings of the names in U, with schemes that are made anew
  pub units_of : (U : Identifier → Type 0) (D : Bindings) (B : Identifier → Scheme) (n : ℕ) → AssumptionsBelow n (bind_all (names ds) B A) → ((y : Identifier) → IsUnsigned y D → IsUnsigned y ds) → ((y : Identifier) → IsSigned y D → IsSigned y ds) →
      DerivesOf U A own (names ds) B D → SignedOf U (bind_all (names ds) B A) D →
      UnitsHave U A (λ x. bind_all (names ds) (seen own (λ z. instance (B z) (fresh n)) (remade own A n B) x) A) (λ z. instance (B z) (fresh n)) (remade own A n B) D
  units_of U no_binding B n b f g d e = tt
  units_of U (signed x s cs D) B n b f g d e = (
    (
      ap (λ k. cond k (quantify A (instance (B x) (fresh n))) (B x)) (own_signed ds own units x x (g x (inl refl))) ∙ d.0,
      λ u. record {
        variables = λ i. n + i;
        are_new = is_new n A s (λ a k. b a (FreeIn-bind_all-out (names ds) B A a k));
        typed = HasClauses-Derives cs _ _ _
            (more-all (names ds) B _ A A
            (λ y o. subst (IsAtMostAsGeneral (B y)) (sym (cond_false (own x y) _ _ (own_signed ds own units x y (g x (inl refl)))))
            (general_remade own A n B y (λ a i. b a (FreeIn-bind_all-in (names ds) B A a y o i)) (λ a k. b a (FreeIn-bind_all-out (names ds) B A a k))))
            (λ y t h. h))
            (e.0 u (fresh n));
      },
    ),
    units_of U D B n b f (λ y i. g y (inr i)) d.1 e.1,
  )
  units_of U (unsigned x cs D) B n b f g d e = (
    (λ u. (
      ap (λ k. cond k (quantify A (instance (B x) (fresh n))) (B x)) (own_unsigned ds own units x (f x (inl refl))),
      HasClauses-Derives cs _ _ _ (more-all (names ds) _ _ A A (λ y o. general_seen own A n B x y (λ a i. b a (FreeIn-bind_all-in (names ds) B A a y o i)) (λ a k. b a (FreeIn-bind_all-out (names ds) B A a k))) (λ y t h. h)) (d.0 u (fresh n)),
    )),
    units_of U D B n b (λ y i. f y (inr i)) g d.1 e,
  )
  units_of U (matched k p cs D) B n b f g d e = (
    (λ u. record {
      fits = (d.0 u (fresh n)).0;
      right_sides = HasClauses-Derives cs _ _ _ (more-all (names ds) _ _ A A (λ y o. general_seen own A n B k y (λ a i. b a (FreeIn-bind_all-in (names ds) B A a y o i)) (λ a i. b a (FreeIn-bind_all-out (names ds) B A a i))) (λ y t h. h)) (d.0 u (fresh n)).1;
      quantified = λ x o. ap (λ c. cond c (quantify A (instance (B x) (fresh n))) (B x)) (own_unsigned ds own units x (f x (inl o)));
    }),
    units_of U D B n b (λ y i. f y (inr i)) g d.1 e,
  )

  -- what is typable, of what was judged
  module _ (j : Judged ds A own) where
    pub judged_closed : IsClosed (bind_all (names ds) j.schemes A)
    judged_closed a f = ⊎_elim (λ h. j.state.shut h.0 a h.2) (λ h. shutA a h) (FreeIn-bind_all (names ds) j.schemes A a f)

    -- other schemes under which the bindings are typed are at most as general
    pub derived_to : (U : Identifier → Type 0) (B : Identifier → Scheme) → IsDown ds own U → DerivesOf U A own (names ds) B ds → SignedOf U (bind_all (names ds) B A) ds →
        ((y : Identifier) → IsUnsigned y ds → U y → j.status y ≡ true) × SignedOf U (bind_all (names ds) j.schemes A) ds
    derived_to U B down derived g = ((λ y i u. (most y i u).0), SignedOf-more ds U (names ds) A B j.schemes better g)
      where
        most : (y : Identifier) → IsUnsigned y ds → U y → (j.status y ≡ true) × IsAtMostAsGeneral (B y) (j.schemes y)
        most y i u = j.state.most U B down derived y (j.all y i) u

        better : (x y : Identifier) → U x → BindingMentions x y ds → IsOneOf y (names ds) → IsAtMostAsGeneral (B y) (j.schemes y)
        better x y u m o = ⊎_elim (λ i. (most y i (down.mentioned x y u m i)).1)
            (λ i. subst (IsAtMostAsGeneral (B y)) (declared_same ds U A own (names ds) j.schemes B j.state.declared derived y i) (λ t k. k)) (kind_of ds y o)

    pub typable_to : (U : Identifier → Type 0) → IsDown ds own U → IsTypable A ds U → ((y : Identifier) → IsUnsigned y ds → U y → j.status y ≡ true) × SignedOf U (bind_all (names ds) j.schemes A) ds
    typable_to U down p = derived_to U p.schemes down (derives_of ds own units A shutA U down ds w.types p.schemes p.are_closed (quantified_of ds own units A shutA U down ds _ w.types p.schemes (together ds own units) shifted) shifted)
        (signed_of U ds w.types p.schemes p.are_closed (λ y i. i) shifted)
      where
        w : InUnits A ds p.schemes (λ sees ts. UnitsHave U A sees ts p.schemes ds)
        w = p.units

        shifted : UnitsHave U A (λ z. bind_all (names ds) (seen own w.types p.schemes z) A) w.types p.schemes ds
        shifted = subst (λ o. UnitsHave U A (λ z. bind_all (names ds) (seen o w.types p.schemes z) A) w.types p.schemes ds) (same_units ds own w.own units w.units) w.bindings

    pub typable_from : (U : Identifier → Type 0) → ((y : Identifier) → IsUnsigned y ds → U y → j.status y ≡ true) → SignedOf U (bind_all (names ds) j.schemes A) ds → IsTypable A ds U
    typable_from U f g = record {
      schemes = remade own A n j.schemes;
      are_closed = λ y a i. shut y a (own y y) i;
      units = record {
        own = own;
        units = units;
        types = λ z. instance (j.schemes z) (fresh n);
        bindings = units_of U ds j.schemes n b.1 (λ y i. i) (λ y i. i) (kept ds (λ y i. i) j.state.sound) g;
      };
    }
      where
        b : (c : ℕ) × AssumptionsBelow c (bind_all (names ds) j.schemes A)
        b = assumptions_bound (bind_all (names ds) j.schemes A)

        n : ℕ
        n = b.0

        kept : (D : Bindings) → ((y : Identifier) → IsUnsigned y D → IsUnsigned y ds) → DerivesOf (λ y. j.status y ≡ true) A own (names ds) j.schemes D → DerivesOf U A own (names ds) j.schemes D
        kept no_binding sub d = tt
        kept (unsigned x cs D) sub d = ((λ u. d.0 (f x (sub x (inl refl)) u)), kept D (λ y i. sub y (inr i)) d.1)
        kept (signed x s cs D) sub d = (d.0, kept D sub d.1)
        kept (matched k p cs D) sub d = ((λ u. d.0 (f k (sub k (inl (own_name k p))) u)), kept D (λ y i. sub y (inr i)) d.1)

        shut : (y : Identifier) (a : ℕ) (k : Bool) → ¬ (In (Free a) (cond k (quantify A (instance (j.schemes y) (fresh n))) (j.schemes y)))
        shut y a true h = shutA a (In_quantify A (instance (j.schemes y) (fresh n)) a h)
        shut y a false h = j.state.shut y a h

-- A set of units that is typable stays so under more general assumptions.

pub DerivesOf-more : (D : Bindings) (U : Identifier → Type 0) (A A' : Assumptions) (own : Identifier → Identifier → Bool) (xs : List Identifier) (B : Identifier → Scheme) → AreAtMostAsGeneral A A' → DerivesOf U A own xs B D → DerivesOf U A' own xs B D
DerivesOf-more no_binding U A A' own xs B m d = tt
DerivesOf-more (unsigned x cs D) U A A' own xs B m d = (
  (λ u us. DeriveClauses-more cs _ _ _ (λ y i t h. Has-bind_all xs (seen_at own B us x) (seen_at own B us x) A A' y (λ o v k. k) (λ o v k. m y v k) t h) (d.0 u us)),
  DerivesOf-more D U A A' own xs B m d.1,
)
DerivesOf-more (signed x s cs D) U A A' own xs B m d = (d.0, DerivesOf-more D U A A' own xs B m d.1)
DerivesOf-more (matched k p cs D) U A A' own xs B m d = (
  (λ u us. ((d.0 u us).0, DeriveClauses-more cs _ _ _ (λ y i t h. Has-bind_all xs (seen_at own B us k) (seen_at own B us k) A A' y (λ o v q. q) (λ o v q. m y v q) t h) (d.0 u us).1)),
  DerivesOf-more D U A A' own xs B m d.1,
)

pub SignedOf-under : (D : Bindings) (U : Identifier → Type 0) (A A' : Assumptions) (xs : List Identifier) (B : Identifier → Scheme) → AreAtMostAsGeneral A A' → SignedOf U (bind_all xs B A) D → SignedOf U (bind_all xs B A') D
SignedOf-under no_binding U A A' xs B m d = tt
SignedOf-under (unsigned x cs D) U A A' xs B m d = SignedOf-under D U A A' xs B m d
SignedOf-under (matched k p cs D) U A A' xs B m d = SignedOf-under D U A A' xs B m d
SignedOf-under (signed x s cs D) U A A' xs B m d = (
  (λ u us. DeriveClauses-more cs _ _ _ (λ y i t h. Has-bind_all xs B B A A' y (λ o v k. k) (λ o v k. m y v k) t h) (d.0 u us)),
  SignedOf-under D U A A' xs B m d.1,
)

pub typable_more : (ds : Bindings) (own : Identifier → Identifier → Bool) → AreUnits ds own → (A A' : Assumptions) → IsClosed A → IsClosed A' → AreAtMostAsGeneral A A' → (U : Identifier → Type 0) → IsDown ds own U → IsTypable A ds U → IsTypable A' ds U
typable_more ds own units A A' shutA shutA' m U down p = record {
  schemes = remade own A' n p.schemes;
  are_closed = λ y a i. shut y a (own y y) i;
  units = record {
    own = own;
    units = units;
    types = λ z. instance (p.schemes z) (fresh n);
    bindings = units_of ds own units A' shutA' U ds p.schemes n b.1 (λ y i. i) (λ y i. i)
        (DerivesOf-more ds U A A' own (names ds) p.schemes m (derives_of ds own units A shutA U down ds w.types p.schemes p.are_closed (quantified_of ds own units A shutA U down ds _ w.types p.schemes (together ds own units) shifted) shifted))
        (SignedOf-under ds U A A' (names ds) p.schemes m (signed_of ds own units A shutA U ds w.types p.schemes p.are_closed (λ y i. i) shifted));
  };
}
  where
    w : InUnits A ds p.schemes (λ sees ts. UnitsHave U A sees ts p.schemes ds)
    w = p.units

    shifted : UnitsHave U A (λ z. bind_all (names ds) (seen own w.types p.schemes z) A) w.types p.schemes ds
    shifted = subst (λ o. UnitsHave U A (λ z. bind_all (names ds) (seen o w.types p.schemes z) A) w.types p.schemes ds) (same_units ds own w.own units w.units) w.bindings

    b : (c : ℕ) × AssumptionsBelow c (bind_all (names ds) p.schemes A')
    b = assumptions_bound (bind_all (names ds) p.schemes A')

    n : ℕ
    n = b.0

    shut : (y : Identifier) (a : ℕ) (k : Bool) → ¬ (In (Free a) (cond k (quantify A' (instance (p.schemes y) (fresh n))) (p.schemes y)))
    shut y a true h = shutA' a (In_quantify A' (instance (p.schemes y) (fresh n)) a h)
    shut y a false h = p.are_closed y a h
