-- Worked sources with pattern bindings.
use Rattle.std.proofs.Common.{◌≡◌, ℕ, Bool, true, false, cond, ◌==◌, List, [], ◌∷◌, inl, inr, ◌⊎◌, ⊎_elim, refl, sym, ap, ◌∙◌, subst, arith}
use Rattle.hm_types.specs.Types.{Var}
use Rattle.hm_typing.specs.Names.{Identifier, IsOneOf, IsDistinct}
use Rattle.hm_typing.specs.Schemes.{Monotype, Scheme, arrow, instance, monomorphic, closed, IsInstance}
use Rattle.hm_typing.specs.Assumptions.{Assumptions, empty, bind, bind_all, Has}
use Rattle.hm_typing.specs.Generalisation.{quantify}
use Rattle.hm_typing.specs.Patterns.{list, Matches}
use Rattle.hm_typing.specs.Syntax.{Expression, Variable, Literal, Apply, Lambda, VariablePattern, pattern, no_pattern, Integer, Character, Text, Bindings, names, bool}
use Rattle.hm_typing.specs.Mentions.{Mentions, ClausesMention}
use Rattle.hm_typing.specs.Units.{IsUnsigned, RefersTo, Reaches, directly, through, SameUnit, DependsOn, AreUnits, seen}
use Rattle.hm_typing.specs.Typing.{HasPatternBinding, HasType, HasClauses}
use Rattle.hm_typing.specs.SecondForm.{Derives, DeriveClauses, DerivedSchemes, seen_at}
use Rattle.hm_typing.specs.Verdicts.{IsTypable, IsTypeFault, IsFirstIn, AreTypeFaults}
use Rattle.hm_typing.specs.Sources.{f, g, x, y, z, h, not, undefined, first_binding, second_binding, int, char, pair_type, identity, maybe, pair_pattern, is, pair, pair_and_h, pattern_is_one_unit, pattern_generalises, pattern_fault, matched_constructors, guarded_pattern, letter_as_guard, nameless_faults, IsTypedWith, HasNoSchemes, with_undefined, with_not}
use Rattle.hm_typing.specs.Orders.{Layout}
use Rattle.hm_typing.proofs.Bind.{Has-Sees}
use Rattle.hm_typing.proofs.Matching.{together}
use Rattle.hm_typing.proofs.Ordering.{layout}
use Rattle.hm_typing.proofs.Bridge.{not_true, HasClauses-Derives, In_closed}
use Rattle.hm_typing.proofs.ModuleSets.{quantify_closed}
use Rattle.hm_typing.proofs.Groups.{cond_true, cond_false}
use Rattle.hm_typing.proofs.WorkedSources.{first_code, differ, f≢g, g≢f, x≢y, its_type, at_type, found, behind, only, only_at, nothing_listed, alone, typed_with, pair_derived, argument, result_of, type_letter, int≢char, always, two}
use Rattle.hm_typing.proofs.FaultLists.{first_listed}
use Rattle.hm_typing.proofs.FaultsOfSources.{nothing_typable, bool≢int}

-- Right sides

is_derived : (e : Expression) (A : Assumptions) (t : Monotype) → Derives A e t → DeriveClauses A (is e) t
is_derived e A t d = (
  record {
    variables = λ w. t;
    parameters = λ j. t;
    result = t;
    function = refl;
    matched = tt;
    body = record { schemes = λ w. monomorphic t; listed = nothing_listed A (λ w. monomorphic t); body = (d, tt) };
  },
  tt,
)

is_typed : (e : Expression) (A : Assumptions) (t : Monotype) → HasClauses A (is e) t → HasType A e t
is_typed e A t d = subst (HasType A e) (sym d.0.function) d.0.body.body.0

-- (f, g) = .. ; h = ..

f≢h : ¬ (f ≡ h)
f≢h = differ f h (λ e. omega arith)

g≢h : ¬ (g ≡ h)
g≢h = differ g h (λ e. omega arith)

first≢f : ¬ (first_binding ≡ f)
first≢f = differ first_binding f (λ e. omega arith)

first≢g : ¬ (first_binding ≡ g)
first≢g = differ first_binding g (λ e. omega arith)

first≢h : ¬ (first_binding ≡ h)
first≢h = differ first_binding h (λ e. omega arith)

module _ (e e' : Expression) where
  abbrev ds : Bindings
  ds = pair_and_h e e'

  distinct : IsDistinct (names ds)
  distinct = (
    (λ o. ⊎_elim f≢g (λ k. ⊎_elim (λ q. first≢f (sym q)) (λ j. ⊎_elim f≢h (λ i. i) j) k) o),
    (
      (λ o. ⊎_elim (λ q. first≢g (sym q)) (λ j. ⊎_elim g≢h (λ i. i) j) o),
      ((λ o. ⊎_elim first≢h (λ i. i) o), ((λ o. o), tt)),
    ),
  )

  abbrev InPattern : Identifier → Type 0
  InPattern v = (v ≡ f) ⊎ ((v ≡ g) ⊎ ((v ≡ first_binding) ⊎ ⊥))

  not_in_pattern : ¬ (InPattern h)
  not_in_pattern (inl q) = f≢h (sym q)
  not_in_pattern (inr (inl q)) = g≢h (sym q)
  not_in_pattern (inr (inr (inl q))) = first≢h (sym q)
  not_in_pattern (inr (inr (inr q))) = q

  one_unit : (v w : Identifier) → InPattern v → InPattern w → Reaches ds v w
  one_unit v w o q = directly (inl (o, inl q), inl q)

  pattern_own : (own : Identifier → Identifier → Bool) → AreUnits ds own → (v w : Identifier) → InPattern v → InPattern w → own v w ≡ true
  pattern_own own units v w o q = (together ds own units).0 v w o q

  module _ (quiet : ¬ (ClausesMention h (is e))) (quiet' : ¬ (ClausesMention h (is e'))) where
    -- nothing refers to h
    not_h : (v w : Identifier) → RefersTo ds v w → ¬ (w ≡ h)
    not_h v w (inl (o, inl q), u) k = not_in_pattern (subst InPattern k q)
    not_h v w (inl (o, inr m), u) k = quiet (subst (λ a. ClausesMention a (is e)) k m)
    not_h v w (inr (inl (o, m)), u) k = quiet' (subst (λ a. ClausesMention a (is e')) k m)
    not_h v w (inr (inr m), u) k = m

    unreached : (v w : Identifier) → Reaches ds v w → ¬ (w ≡ h)
    unreached v w (directly r) k = not_h v w r k
    unreached v w (through r p) k = unreached _ w p k

    apart : (v : Identifier) → ¬ (h ≡ v) → ¬ (SameUnit ds h v)
    apart v n (inl k) = n k
    apart v n (inr p) = unreached v h p.1 refl

    -- what is reached is of the pattern
    reached : (v w : Identifier) → Reaches ds v w → InPattern w
    reached v w r = at w (unreached v w r) (ends r)
      where
        ends : {a b : Identifier} → Reaches ds a b → IsUnsigned b ds
        ends (directly q) = q.1
        ends (through q p) = ends p

        at : (b : Identifier) → ¬ (b ≡ h) → IsUnsigned b ds → InPattern b
        at b n (inl o) = o
        at b n (inr (inl k)) = absurd (n k)
        at b n (inr (inr k)) = absurd k

    -- no unit of the pattern's names has h
    without_h : (v : Identifier) → InPattern v → ¬ (DependsOn ds v h ⊎ SameUnit ds v h)
    without_h v o (inl d) = unreached v h d.0 refl
    without_h v o (inr (inl k)) = not_in_pattern (subst InPattern k o)
    without_h v o (inr (inr p)) = unreached v h p.0 refl

-- what a right side mentions
is_mention : (v : Identifier) (e : Expression) → ClausesMention v (is e) → Mentions v e
is_mention v e (inl (n, (k, inl (inl m)))) = m
is_mention v e (inl (n, (k, inl (inr m)))) = absurd m
is_mention v e (inl (n, (k, inr m))) = absurd m
is_mention v e (inr m) = absurd m

h≢x : ¬ (h ≡ x)
h≢x = differ h x (λ e. omega arith)

abbrev same : Expression
same = Lambda (pattern (VariablePattern x) no_pattern) (Variable x)

same_derived : (A : Assumptions) (t : Monotype) → Derives A same (arrow t t)
same_derived A t = record { variables = λ w. t; parameters = λ j. t; result = t; function = refl; matched = (refl, tt); body = inl (refl, its_type t) }

-- (f, g) = (\x -> x, f 1) ; h = f 'c'

abbrev number_use : Expression
number_use = pair same (Apply (Variable f) (Literal Integer))

abbrev letter_use : Expression
letter_use = Apply (Variable f) (Literal Character)

quiet_number : ¬ (ClausesMention h (is number_use))
quiet_number m = at (is_mention h number_use m)
  where
    at : ¬ (Mentions h number_use)
    at (inl k) = h≢x k.1
    at (inr (inl (inl k))) = f≢h (sym k)
    at (inr (inl (inr k))) = k
    at (inr (inr k)) = k

quiet_letter : ¬ (ClausesMention h (is letter_use))
quiet_letter m = ⊎_elim (λ k. f≢h (sym k)) (λ k. k) (is_mention h letter_use m)

-- the two bindings clash: f has a type from Int, also where it is generalised
uses_clash : (own : Identifier → Identifier → Bool) → AreUnits pattern_is_one_unit own → (ts : Identifier → Monotype) (B : Identifier → Scheme) →
    HasPatternBinding empty ts B first_binding (pair_pattern f g) (λ t. HasClauses (bind_all (names pattern_is_one_unit) (seen own ts B first_binding) empty) (is number_use) t) →
    ¬ (HasClauses (bind_all (names pattern_is_one_unit) (seen own ts B h) empty) (is letter_use) (ts h))
uses_clash own units ts B d c =
    let e = is_typed number_use (bind_all (names pattern_is_one_unit) (seen own ts B first_binding) empty) (ts first_binding) d.right_sides in
    let b = e.1.1.1.0 in
    let its : own first_binding f ≡ true = pattern_own number_use letter_use own units first_binding f (inr (inr (inl refl))) (inl refl) in
    let f_type : ts f ≡ arrow int (e.0 1) = sym (only (ts f) _ (subst (IsInstance (arrow b.0 (e.0 1))) (cond_true (own first_binding f) _ _ its) (found b.1.0))) ∙ ap (λ t. arrow t (e.0 1)) b.1.1 in
    let p = is_typed letter_use (bind_all (names pattern_is_one_unit) (seen own ts B h) empty) (ts h) c in
    at (own h f) (e.0 1) (ts h) p.0 f_type (d.quantified f (inl refl) ∙ ap (quantify empty) f_type) (found p.1.0) p.1.1
  where
    at : (b : Bool) (u v t : Monotype) → ts f ≡ arrow int u → B f ≡ quantify empty (arrow int u) → IsInstance (arrow t v) (cond b (monomorphic (ts f)) (B f)) → t ≡ char → ⊥
    at true u v t k s i l = int≢char (sym (ap argument (only (ts f) _ i ∙ k)) ∙ l)
    at false u v t k s i l = let j = subst (IsInstance (arrow t v)) s i in int≢char (sym (ap argument j.1) ∙ l)

pub one_unit_untyped : HasNoSchemes empty pattern_is_one_unit
one_unit_untyped B l = uses_clash l.own l.units l.types B l.bindings.0 l.bindings.1.0.1

-- the unit of the pattern is typable, that of h isn't
abbrev pattern_types : Identifier → Monotype
pattern_types v = cond (first_code v == first_code f) (arrow int int) (cond (first_code v == first_code g) int (pair_type (arrow int int) int))

pattern_typable : (U : Identifier → Type 0) → ¬ (U h) → IsTypable empty pattern_is_one_unit U
pattern_typable U n = record {
  schemes = λ v. closed (pattern_types v);
  are_closed = λ v a i. In_closed (pattern_types v) a i;
  units = record {
    own = L.own;
    units = L.units;
    types = pattern_types;
    bindings = (
      (λ u. record {
        fits = (two (arrow int int) int, (refl, (refl, (refl, tt))));
        right_sides = HasClauses-Derives (is number_use) C C (pair_type (arrow int int) int) (λ v t i. i)
            (is_derived number_use C (pair_type (arrow int int) int) (pair_derived C same (Apply (Variable f) (Literal Integer)) (arrow int int) int (same_derived C int) (int, (f_has, refl))));
        quantified = λ v o. sym (quantify_closed empty (λ a k. k) (pattern_types v));
      }),
      ((λ u. absurd (n u)), tt),
    );
  };
}
  where
    L : Layout pattern_is_one_unit
    L = layout pattern_is_one_unit (distinct number_use letter_use)

    C : Assumptions
    C = bind_all (names pattern_is_one_unit) (seen L.own pattern_types (λ v. closed (pattern_types v)) first_binding) empty

    f_has : Has C f (arrow int int)
    f_has = inl (refl, subst (IsInstance (arrow int int)) (sym (cond_true (L.own first_binding f) _ _ (pattern_own number_use letter_use L.own L.units first_binding f (inr (inr (inl refl))) (inl refl)))) (its_type (arrow int int)))

h_untyped : (U : Identifier → Type 0) → U first_binding → U h → ¬ (IsTypable empty pattern_is_one_unit U)
h_untyped U u w p = uses_clash p.units.own p.units.units p.units.types p.schemes (p.units.bindings.0 u) (p.units.bindings.1.0 w).1

pub one_unit_fault : AreTypeFaults empty pattern_is_one_unit (h ∷ [])
one_unit_fault v = (
  (λ o. ⊎_elim
      (λ e. (subst (λ w. IsFirstIn pattern_is_one_unit w (names pattern_is_one_unit)) (sym e) (inr (outside f (λ k. f≢h (sym k)), inr (outside g (λ k. g≢h (sym k)), inr (outside first_binding (λ k. first≢h (sym k)), inl refl)))), subst (IsTypeFault empty pattern_is_one_unit) (sym e) h_fault))
      (λ k. absurd k) o),
  (λ k. at (first_listed pattern_is_one_unit v (names pattern_is_one_unit) k.0) k.1),
)
  where
    outside : (w : Identifier) → ¬ (h ≡ w) → ¬ (SameUnit pattern_is_one_unit h w)
    outside = apart number_use letter_use quiet_number quiet_letter

    h_first : DependsOn pattern_is_one_unit h first_binding
    h_first = (
      through (inr (inl (refl, inl ((λ o. o), ((λ o. o), inl (inl (inl refl)))))), inl (inl refl)) (one_unit number_use letter_use f first_binding (inl refl) (inr (inr (inl refl)))),
      outside first_binding (λ k. first≢h (sym k)),
    )

    h_fault : IsTypeFault empty pattern_is_one_unit h
    h_fault = (
      pattern_typable (DependsOn pattern_is_one_unit h) (λ d. d.1 (inl refl)),
      h_untyped _ (inl h_first) (inr (inl refl)),
    )

    typable : (w : Identifier) → InPattern number_use letter_use w → ¬ (IsTypeFault empty pattern_is_one_unit w)
    typable w o k = k.1 (pattern_typable _ (without_h number_use letter_use quiet_number quiet_letter w o))

    at : IsOneOf v (names pattern_is_one_unit) → IsTypeFault empty pattern_is_one_unit v → IsOneOf v (h ∷ [])
    at (inl e) k = absurd (typable v (inl e) k)
    at (inr (inl e)) k = absurd (typable v (inr (inl e)) k)
    at (inr (inr (inl e))) k = absurd (typable v (inr (inr (inl e))) k)
    at (inr (inr (inr (inl e)))) k = inl e
    at (inr (inr (inr (inr e)))) k = absurd e

-- (f, g) = (\x -> x, 'c') ; h = (f 1, f g)

abbrev identity_and_letter : Expression
identity_and_letter = pair same (Literal Character)

abbrev both_uses : Expression
both_uses = pair (Apply (Variable f) (Literal Integer)) (Apply (Variable f) (Variable g))

quiet_pair : ¬ (ClausesMention h (is identity_and_letter))
quiet_pair m = at (is_mention h identity_and_letter m)
  where
    at : ¬ (Mentions h identity_and_letter)
    at (inl k) = h≢x k.1
    at (inr (inl k)) = k
    at (inr (inr k)) = k

quiet_uses : ¬ (ClausesMention h (is both_uses))
quiet_uses m = at (is_mention h both_uses m)
  where
    at : ¬ (Mentions h both_uses)
    at (inl (inl k)) = f≢h (sym k)
    at (inl (inr k)) = k
    at (inr (inl (inl k))) = f≢h (sym k)
    at (inr (inl (inr k))) = g≢h (sym k)
    at (inr (inr k)) = k

abbrev general_schemes : Identifier → Scheme
general_schemes v =
    cond (first_code v == first_code f) (closed identity)
    (cond (first_code v == first_code g) (closed char) (cond (first_code v == first_code h) (closed (pair_type int char)) (closed (pair_type identity char))))

general_derived : DerivedSchemes empty pattern_generalises general_schemes
general_derived = record { own = own; units = units; bindings = (first, (second, tt)) }
  where
    own : Identifier → Identifier → Bool
    own = (layout pattern_generalises (distinct identity_and_letter both_uses)).own

    units : AreUnits pattern_generalises own
    units = (layout pattern_generalises (distinct identity_and_letter both_uses)).units

    outside : (v : Identifier) → ¬ (h ≡ v) → own h v ≡ false
    outside v n = not_true (own h v) (λ k. apart identity_and_letter both_uses quiet_pair quiet_uses v n ((units.1 h v).0 k).2)

    first : (us : ℕ → Monotype) → Matches (λ v. instance (general_schemes v) us) (pair_pattern f g) (pair_type (arrow (us 0) (us 0)) char) × DeriveClauses (bind_all (names pattern_generalises) (seen_at own general_schemes us first_binding) empty) (is identity_and_letter) (pair_type (arrow (us 0) (us 0)) char)
    first us =
        let C = bind_all (names pattern_generalises) (seen_at own general_schemes us first_binding) empty in (
          (two (arrow (us 0) (us 0)) char, (refl, (refl, (refl, tt)))),
          is_derived identity_and_letter C (pair_type (arrow (us 0) (us 0)) char)
              (pair_derived C same (Literal Character) (arrow (us 0) (us 0)) char (same_derived C (us 0)) refl),
        )

    second : (us : ℕ → Monotype) → DeriveClauses (bind_all (names pattern_generalises) (seen_at own general_schemes us h) empty) (is both_uses) (pair_type int char)
    second us =
        let C = bind_all (names pattern_generalises) (seen_at own general_schemes us h) empty in
        let f_has : (t : Monotype) → Has C f (arrow t t) = λ t. inl (refl, subst (IsInstance (arrow t t)) (sym (cond_false (own h f) _ _ (outside f (λ k. f≢h (sym k))))) (at_type identity (always t))) in
        let g_has : Has C g char = inr (g≢f, inl (refl, subst (IsInstance char) (sym (cond_false (own h g) _ _ (outside g (λ k. g≢h (sym k))))) (at_type char Var))) in
        is_derived both_uses C (pair_type int char)
        (pair_derived C (Apply (Variable f) (Literal Integer)) (Apply (Variable f) (Variable g)) int char (int, (f_has int, refl)) (char, (f_has char, g_has)))

pub pattern_generalises_typed : IsTypedWith empty pattern_generalises h (closed (pair_type int char))
pattern_generalises_typed = typed_with empty pattern_generalises general_schemes h (inr (inr (inr (inl refl)))) general_derived

-- x : y = "ab" ; Just z = undefined

x≢first : ¬ (x ≡ first_binding)
x≢first = differ x first_binding (λ e. omega arith)

x≢z : ¬ (x ≡ z)
x≢z = differ x z (λ e. omega arith)

x≢second : ¬ (x ≡ second_binding)
x≢second = differ x second_binding (λ e. omega arith)

y≢first : ¬ (y ≡ first_binding)
y≢first = differ y first_binding (λ e. omega arith)

y≢z : ¬ (y ≡ z)
y≢z = differ y z (λ e. omega arith)

y≢second : ¬ (y ≡ second_binding)
y≢second = differ y second_binding (λ e. omega arith)

first≢z : ¬ (first_binding ≡ z)
first≢z = differ first_binding z (λ e. omega arith)

first≢second : ¬ (first_binding ≡ second_binding)
first≢second = differ first_binding second_binding (λ e. omega arith)

z≢second : ¬ (z ≡ second_binding)
z≢second = differ z second_binding (λ e. omega arith)

constructors_distinct : IsDistinct (names matched_constructors)
constructors_distinct = (
  (λ o. ⊎_elim x≢y (λ a. ⊎_elim x≢first (λ b. ⊎_elim x≢z (λ c. ⊎_elim x≢second (λ d. d) c) b) a) o),
  (
    (λ o. ⊎_elim y≢first (λ a. ⊎_elim y≢z (λ b. ⊎_elim y≢second (λ c. c) b) a) o),
    ((λ o. ⊎_elim first≢z (λ a. ⊎_elim first≢second (λ b. b) a) o), ((λ o. ⊎_elim z≢second (λ a. a) o), ((λ o. o), tt))),
  ),
)

abbrev constructor_schemes : Identifier → Scheme
constructor_schemes v =
    cond (first_code v == first_code x) (closed char)
    (cond (first_code v == first_code z) (closed (Var 0)) (cond (first_code v == first_code second_binding) (closed (maybe (Var 0))) (closed (list char))))

undefined_differs : (v : Identifier) → ¬ (117 ≡ first_code v) → ¬ (undefined ≡ v)
undefined_differs v n = differ undefined v n

constructors_derived : DerivedSchemes with_undefined matched_constructors constructor_schemes
constructors_derived = record {
  own = L.own;
  units = L.units;
  bindings = (
    (λ us. (
      (two char (list char), ((always char, refl), (refl, (refl, tt)))),
      is_derived (Literal Text) (bind_all (names matched_constructors) (seen_at L.own constructor_schemes us first_binding) with_undefined) (list char) refl,
    )),
    (
      (λ us. (
        (always (us 0), ((always (us 0), refl), (refl, tt))),
        is_derived (Variable undefined) (bind_all (names matched_constructors) (seen_at L.own constructor_schemes us second_binding) with_undefined) (maybe (us 0))
            (inr (
              undefined_differs x (λ e. omega arith),
              inr (
                undefined_differs y (λ e. omega arith),
                inr (
                  undefined_differs first_binding (λ e. omega arith),
                  inr (
                    undefined_differs z (λ e. omega arith),
                    inr (
                      undefined_differs second_binding (λ e. omega arith),
                      inl (refl, at_type (Var 0) (always (maybe (us 0)))),
                    ),
                  ),
                ),
              ),
            )),
      )),
      tt,
    ),
  );
}
  where
    L : Layout matched_constructors
    L = layout matched_constructors constructors_distinct

pub matched_constructors_typed : IsTypedWith with_undefined matched_constructors x (closed char) × (IsTypedWith with_undefined matched_constructors y (closed (list char)) × IsTypedWith with_undefined matched_constructors z (closed (Var 0)))
matched_constructors_typed = (
  typed_with with_undefined matched_constructors constructor_schemes x (inl refl) constructors_derived,
  (
    typed_with with_undefined matched_constructors constructor_schemes y (inr (inl refl)) constructors_derived,
    typed_with with_undefined matched_constructors constructor_schemes z (inr (inr (inr (inl refl)))) constructors_derived,
  ),
)

-- (x, y) | y = (z, y) where { z = 1 }

y≢x : ¬ (y ≡ x)
y≢x e = x≢y (sym e)

pair_distinct : IsDistinct (names guarded_pattern)
pair_distinct = ((λ o. ⊎_elim x≢y (λ a. ⊎_elim x≢first (λ b. b) a) o), ((λ o. ⊎_elim y≢first (λ a. a) o), ((λ o. o), tt)))

abbrev guarded_schemes : Identifier → Scheme
guarded_schemes v = cond (first_code v == first_code x) (closed int) (cond (first_code v == first_code y) (closed bool) (closed (pair_type int bool)))

guarded_derived : DerivedSchemes empty guarded_pattern guarded_schemes
guarded_derived = record {
  own = L.own;
  units = L.units;
  bindings = (
    (λ us.
        let C = bind_all (names guarded_pattern) (seen_at L.own guarded_schemes us first_binding) empty in
        let y_has : Has (bind z (closed int) C) y bool = inr (y≢z, inr (y≢x, inl (refl, subst (IsInstance bool) (sym (cond_true (L.own first_binding y) _ _ own)) (its_type bool)))) in (
          (two int bool, (refl, (refl, (refl, tt)))),
          (
            record {
              variables = λ w. int;
              parameters = λ j. int;
              result = pair_type int bool;
              function = refl;
              matched = tt;
              body = record {
                schemes = λ w. closed int;
                listed = alone z (is (Literal Integer)) C (λ w. closed int) (λ vs. is_derived (Literal Integer) (bind z (monomorphic (instance (closed int) vs)) C) int refl);
                body = (y_has, (pair_derived (bind z (closed int) C) (Variable z) (Variable y) int bool (inl (refl, at_type int Var)) y_has, tt));
              };
            },
            tt,
          ),
        )),
    tt,
  );
}
  where
    L : Layout guarded_pattern
    L = layout guarded_pattern pair_distinct

    own : L.own first_binding y ≡ true
    own = (together guarded_pattern L.own L.units).0 first_binding y (inr (inr (inl refl))) (inr (inl refl))

pub guarded_pattern_typed : IsTypedWith empty guarded_pattern x (closed int) × IsTypedWith empty guarded_pattern y (closed bool)
guarded_pattern_typed = (typed_with empty guarded_pattern guarded_schemes x (inl refl) guarded_derived, typed_with empty guarded_pattern guarded_schemes y (inr (inl refl)) guarded_derived)

-- (x, y) | y = (1, 'c')

bool≢char : ¬ (bool ≡ char)
bool≢char e = let k : type_letter bool ≡ type_letter char = ap type_letter e in absurd (omega arith)

pub letter_as_guard_untyped : HasNoSchemes empty letter_as_guard
letter_as_guard_untyped B l =
    let d = l.bindings.0 in
    let c = d.right_sides.0 in
    let e = c.body.body.1.0 in
    let own : l.own first_binding y ≡ true = (together letter_as_guard l.own l.units).0 first_binding y (inr (inr (inl refl))) (inr (inl refl)) in
    let guard : bool ≡ l.types y = only (l.types y) bool (subst (IsInstance bool) (cond_true (l.own first_binding y) _ _ own) (found (behind y≢x c.body.body.0))) in
    let letter : d.fits.0 1 ≡ e.0 1 = ap result_of (sym d.fits.1.0 ∙ (c.function ∙ e.1.0)) in
    bool≢char (guard ∙ (sym d.fits.1.1.1.0 ∙ (letter ∙ e.1.1.1.0)))

-- (f, g) = (not 1, 1) ; h = not g

not≢f : ¬ (not ≡ f)
not≢f = differ not f (λ e. omega arith)

not≢g : ¬ (not ≡ g)
not≢g = differ not g (λ e. omega arith)

not≢first : ¬ (not ≡ first_binding)
not≢first = differ not first_binding (λ e. omega arith)

not≢h : ¬ (not ≡ h)
not≢h = differ not h (λ e. omega arith)

abbrev not_one : Expression
not_one = Apply (Variable not) (Literal Integer)

abbrev not_g : Expression
not_g = Apply (Variable not) (Variable g)

quiet_fault : ¬ (ClausesMention h (is (pair not_one (Literal Integer))))
quiet_fault m = at (is_mention h (pair not_one (Literal Integer)) m)
  where
    at : ¬ (Mentions h (pair not_one (Literal Integer)))
    at (inl (inl k)) = not≢h (sym k)
    at (inl (inr k)) = k
    at (inr (inl k)) = k
    at (inr (inr k)) = k

quiet_not : ¬ (ClausesMention h (is not_g))
quiet_not m = ⊎_elim (λ k. not≢h (sym k)) (λ k. g≢h (sym k)) (is_mention h not_g m)

-- not 1 has no type where not has its own
not_one_untyped : (vs : List Identifier) (B : Identifier → Scheme) (t : Monotype) → ¬ (IsOneOf not vs) → ¬ (HasType (bind_all vs B with_not) not_one t)
not_one_untyped vs B t n d =
    let its = ⊎_elim (λ k. absurd (n k.0)) (λ k. found k.1) (Has-Sees vs B with_not not (arrow d.0 t) d.1.0) in
    bool≢int (sym (ap argument (only_at (arrow bool bool) (arrow d.0 t) its).1) ∙ d.1.1)

pattern_untyped : (U : Identifier → Type 0) → U first_binding → ¬ (IsTypable with_not pattern_fault U)
pattern_untyped U u p =
    let e = is_typed (pair not_one (Literal Integer)) _ (p.units.types first_binding) (p.units.bindings.0 u).right_sides in
    not_one_untyped (names pattern_fault) (seen p.units.own p.units.types p.schemes first_binding) (e.0 0) (λ o. ⊎_elim not≢f (λ a. ⊎_elim not≢g (λ b. ⊎_elim not≢first (λ c. ⊎_elim not≢h (λ k. k) c) b) a) o) e.1.1.0

abbrev in_pattern : Identifier → Type 0
in_pattern = InPattern (pair not_one (Literal Integer)) not_g

joined : (v w : Identifier) → in_pattern v → in_pattern w → SameUnit pattern_fault v w
joined v w o q = inr (one_unit (pair not_one (Literal Integer)) not_g v w o q, one_unit (pair not_one (Literal Integer)) not_g w v q o)

f_fault : IsTypeFault with_not pattern_fault f
f_fault = (
  nothing_typable with_not pattern_fault (distinct (pair not_one (Literal Integer)) not_g) (DependsOn pattern_fault f)
      (λ v d. d.1 (joined f v (inl refl) (reached (pair not_one (Literal Integer)) not_g quiet_fault quiet_not f v d.0))),
  pattern_untyped _ (inr (joined f first_binding (inl refl) (inr (inr (inl refl))))),
)

h_depends : DependsOn pattern_fault h first_binding
h_depends = (
  through (inr (inl (refl, inl ((λ o. o), ((λ o. o), inl (inl (inr refl)))))), inl (inr (inl refl))) (one_unit (pair not_one (Literal Integer)) not_g g first_binding (inr (inl refl)) (inr (inr (inl refl)))),
  apart (pair not_one (Literal Integer)) not_g quiet_fault quiet_not first_binding (λ k. first≢h (sym k)),
)

first_is_f : (v : Identifier) → in_pattern v → IsFirstIn pattern_fault v (names pattern_fault) → v ≡ f
first_is_f v o (inl k) = k
first_is_f v o (inr k) = absurd (k.0 (joined v f o (inl refl)))

pub pattern_faults : AreTypeFaults with_not pattern_fault (f ∷ [])
pattern_faults v = (
  (λ o. ⊎_elim (λ e. (inl e, subst (IsTypeFault with_not pattern_fault) (sym e) f_fault)) (λ k. absurd k) o),
  (λ k. at (first_listed pattern_fault v (names pattern_fault) k.0) k.0 k.1),
)
  where
    at : IsOneOf v (names pattern_fault) → IsFirstIn pattern_fault v (names pattern_fault) → IsTypeFault with_not pattern_fault v → IsOneOf v (f ∷ [])
    at (inl e) i k = inl e
    at (inr (inl e)) i k = inl (first_is_f v (inr (inl e)) i)
    at (inr (inr (inl e))) i k = inl (first_is_f v (inr (inr (inl e))) i)
    at (inr (inr (inr (inl e)))) i k = absurd (pattern_untyped (DependsOn pattern_fault h) h_depends (subst (IsTypeFault with_not pattern_fault) e k).0)
    at (inr (inr (inr (inr e)))) i k = absurd e

-- 3 = 'c' ; _ = not 1

not≢second : ¬ (not ≡ second_binding)
not≢second = differ not second_binding (λ e. omega arith)

nameless_distinct : IsDistinct (names nameless_faults)
nameless_distinct = ((λ o. ⊎_elim first≢second (λ k. k) o), ((λ o. o), tt))

not_listed : (v : Identifier) → v ≡ not → ¬ (IsUnsigned v nameless_faults)
not_listed v e (inl (inl k)) = not≢first (sym e ∙ k)
not_listed v e (inl (inr k)) = k
not_listed v e (inr (inl (inl k))) = not≢second (sym e ∙ k)
not_listed v e (inr (inl (inr k))) = k
not_listed v e (inr (inr k)) = k

-- each refers to itself alone
itself : (v w : Identifier) → RefersTo nameless_faults v w → v ≡ w
itself v w (inl (inl k, inl (inl q)), u) = k ∙ sym q
itself v w (inl (inl k, inl (inr q)), u) = absurd q
itself v w (inl (inl k, inr m), u) = absurd (is_mention w (Literal Character) m)
itself v w (inl (inr k, m), u) = absurd k
itself v w (inr (inl (inl k, inl (inl q))), u) = k ∙ sym q
itself v w (inr (inl (inl k, inl (inr q))), u) = absurd q
itself v w (inr (inl (inl k, inr m)), u) = absurd (⊎_elim (λ e. not_listed w e u) (λ e. e) (is_mention w not_one m))
itself v w (inr (inl (inr k, m)), u) = absurd k
itself v w (inr (inr m), u) = absurd m

nothing_else : (v w : Identifier) → Reaches nameless_faults v w → v ≡ w
nothing_else v w (directly r) = itself v w r
nothing_else v w (through r p) = itself v _ r ∙ nothing_else _ w p

one_alone : (v w : Identifier) → SameUnit nameless_faults v w → v ≡ w
one_alone v w (inl e) = e
one_alone v w (inr p) = nothing_else v w p.0

no_dependence : (v w : Identifier) → ¬ (DependsOn nameless_faults v w)
no_dependence v w d = d.1 (inl (nothing_else v w d.0))

literal_untyped : (U : Identifier → Type 0) → U first_binding → ¬ (IsTypable with_not nameless_faults U)
literal_untyped U u p = let k = p.units.bindings.0 u in int≢char (sym k.fits ∙ is_typed (Literal Character) _ (p.units.types first_binding) k.right_sides)

wildcard_untyped : (U : Identifier → Type 0) → U second_binding → ¬ (IsTypable with_not nameless_faults U)
wildcard_untyped U u p =
    not_one_untyped (names nameless_faults) (seen p.units.own p.units.types p.schemes second_binding) (p.units.types second_binding) (λ o. ⊎_elim not≢first (λ a. ⊎_elim not≢second (λ k. k) a) o)
    (is_typed not_one _ (p.units.types second_binding) (p.units.bindings.1.0 u).right_sides)

nameless_fault : (v : Identifier) → ((U : Identifier → Type 0) → U v → ¬ (IsTypable with_not nameless_faults U)) → IsTypeFault with_not nameless_faults v
nameless_fault v never = (nothing_typable with_not nameless_faults nameless_distinct (DependsOn nameless_faults v) (no_dependence v), never _ (inr (inl refl)))

pub both_nameless : AreTypeFaults with_not nameless_faults (first_binding ∷ second_binding ∷ [])
both_nameless v = (at, λ k. first_listed nameless_faults v (names nameless_faults) k.0)
  where
    at : IsOneOf v (first_binding ∷ second_binding ∷ []) → IsFirstIn nameless_faults v (names nameless_faults) × IsTypeFault with_not nameless_faults v
    at (inl e) = (inl e, subst (IsTypeFault with_not nameless_faults) (sym e) (nameless_fault first_binding literal_untyped))
    at (inr (inl e)) = (
      subst (λ w. IsFirstIn nameless_faults w (names nameless_faults)) (sym e) (inr ((λ s. first≢second (sym (one_alone second_binding first_binding s))), inl refl)),
      subst (IsTypeFault with_not nameless_faults) (sym e) (nameless_fault second_binding wildcard_untyped),
    )
    at (inr (inr e)) = absurd e
