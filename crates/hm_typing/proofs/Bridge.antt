-- The two forms of the typing are one.
use native.Mathlib.Decide.{ℕ_discrete}
use Rattle.std.proofs.Common.{◌≡◌, ℕ, zero, suc, ⊎_elim, ◌<◌, ◌≤◌, List, Bool, true, false, cond, inl, inr, refl, sym, ap, ◌∙◌, subst, subst₂, ◌+◌, ◌-◌, arith, true≢false}
use Rattle.hm_types.specs.Types.{Var, In, put}
use Rattle.hm_typing.specs.Names.{IsOneOf, IsDistinct, Identifier}
use Rattle.hm_typing.specs.Schemes.{Monotype, Scheme, Free, Quantified, instance, monomorphic, scheme_put, IsAtMostAsGeneral, closed}
use Rattle.hm_typing.specs.Assumptions.{Assumptions, assumptions_put, FreeIn, AreAtMostAsGeneral, bind_all}
use Rattle.hm_typing.specs.Decisions.{is_free_in, IsFree}
use Rattle.hm_typing.specs.Generalisation.{quantify}
use Rattle.hm_typing.specs.Syntax.{Expression, Variable, Constructor, Literal, Apply, Lambda, Let, If, Case, Tuple, Listing, Typed, Expressions, no_expression, expression, Clauses, no_clause, clause, RightSides, no_right_side, plain, guarded, Bindings, no_binding, unsigned, signed, matched, patterns_names, matched_names, names}
use Rattle.hm_typing.specs.Units.{IsUnsigned, IsSigned, AreUnits, seen}
use Rattle.hm_typing.specs.Typing.{AreNew, HasType, HasTypes, HasClauses, HasRightSides, HasBindings}
use Rattle.hm_typing.specs.BindingLists.{HasSchemes}
use Rattle.hm_typing.specs.SecondForm.{Derives, DeriveAll, DeriveClauses, DeriveRightSides, DeriveBindings, seen_at}
use Rattle.hm_typing.proofs.Variables.{occurs, vars_bound}
use Rattle.hm_typing.proofs.Types.{put-agree, put-put, In-put}
use Rattle.hm_typing.proofs.SchemeLaws.{scheme_put_mono, scheme_put-agree, scheme_put_Var, assumptions_put_Var, assumptions_put-agree, AssumptionsBelow, SchemeBelow, assumptions_bound}
use Rattle.hm_typing.proofs.Bind.{Has-bind_all, bind_all-agree, assumptions_put-bind_all, instance_closed, FreeIn-bind_all-in, FreeIn-bind_all-out}
use Rattle.hm_typing.proofs.Quantified.{opened, opened_free, quantified_instance, general_quantify, In_quantify}
use Rattle.hm_typing.proofs.Put.{Matches-put, Derives-put, DeriveClauses-put}
use Rattle.hm_typing.proofs.Local.{IsOneOf-left, IsOneOf-right}
use Rattle.hm_typing.proofs.Matching.{one_of, distinct_rest, distinct_apart, own_name, Matches-named}

pub more-all : (xs : List Identifier) (s s' : Identifier → Scheme) (A A' : Assumptions) → ((x : Identifier) → IsOneOf x xs → IsAtMostAsGeneral (s x) (s' x)) → AreAtMostAsGeneral A A' → AreAtMostAsGeneral (bind_all xs s A) (bind_all xs s' A')
more-all xs s s' A A' c m x = Has-bind_all xs s s' A A' x (λ o t. c x o t) (λ o t. m x t)

abbrev pub fresh : ℕ → ℕ → Monotype
fresh n i = Var (n + i)

-- the schemes made anew from the types at fresh variables, for the unsigned names
abbrev pub remade : (Identifier → Identifier → Bool) → Assumptions → ℕ → (Identifier → Scheme) → Identifier → Scheme
remade own A n B x = cond (own x x) (quantify A (instance (B x) (fresh n))) (B x)

pub general_remade : (own : Identifier → Identifier → Bool) (A : Assumptions) (n : ℕ) (B : Identifier → Scheme) (x : Identifier) → SchemeBelow n (B x) → AssumptionsBelow n A → IsAtMostAsGeneral (B x) (remade own A n B x)
general_remade own A n B x b c = at (own x x)
  where
    at : (k : Bool) → IsAtMostAsGeneral (B x) (cond k (quantify A (instance (B x) (fresh n))) (B x))
    at true = general_quantify A (B x) n b c
    at false = λ t i. i

pub general_seen : (own : Identifier → Identifier → Bool) (A : Assumptions) (n : ℕ) (B : Identifier → Scheme) (x y : Identifier) → SchemeBelow n (B y) → AssumptionsBelow n A →
    IsAtMostAsGeneral (seen_at own B (fresh n) x y) (seen own (λ z. instance (B z) (fresh n)) (remade own A n B) x y)
general_seen own A n B x y b c = at (own x y)
  where
    at : (k : Bool) → IsAtMostAsGeneral (cond k (monomorphic (instance (B y) (fresh n))) (B y)) (cond k (monomorphic (instance (B y) (fresh n))) (remade own A n B y))
    at true = λ t i. i
    at false = general_remade own A n B y b c

pub is_new : (n : ℕ) (A : Assumptions) (s : Monotype) → AssumptionsBelow n A → AreNew A s (λ i. n + i)
is_new n A s b = record { distinct = λ i j p q e. omega arith; new = λ i p f. (let h = b (n + i) f in absurd (omega arith)) }

pub not_true : (b : Bool) → ¬ (b ≡ true) → b ≡ false
not_true true n = absurd (n refl)
not_true false n = refl

pub own_unsigned : (ds : Bindings) (own : Identifier → Identifier → Bool) → AreUnits ds own → (x : Identifier) → IsUnsigned x ds → own x x ≡ true
own_unsigned ds own units x u = (units.1 x x).1 (u, u, inl refl)

pub unsigned_name : (ds : Bindings) (x : Identifier) → IsUnsigned x ds → IsOneOf x (names ds)
unsigned_name no_binding x u = u
unsigned_name (unsigned y cs ds) x (inl e) = inl e
unsigned_name (unsigned y cs ds) x (inr u) = inr (unsigned_name ds x u)
unsigned_name (signed y s cs ds) x u = inr (unsigned_name ds x u)
unsigned_name (matched k p cs ds) x (inl o) = IsOneOf-left x (matched_names k p) (names ds) o
unsigned_name (matched k p cs ds) x (inr u) = IsOneOf-right x (matched_names k p) (names ds) (unsigned_name ds x u)

pub signed_name : (ds : Bindings) (x : Identifier) → IsSigned x ds → IsOneOf x (names ds)
signed_name no_binding x u = u
signed_name (unsigned y cs ds) x u = inr (signed_name ds x u)
signed_name (signed y s cs ds) x (inl e) = inl e
signed_name (signed y s cs ds) x (inr u) = inr (signed_name ds x u)
signed_name (matched k p cs ds) x u = IsOneOf-right x (matched_names k p) (names ds) (signed_name ds x u)

pub one_kind : (ds : Bindings) → IsDistinct (names ds) → (x : Identifier) → IsSigned x ds → ¬ (IsUnsigned x ds)
one_kind no_binding d x s u = s
one_kind (unsigned y cs ds) d x s (inl e) = d.0 (subst (λ z. IsOneOf z (names ds)) e (signed_name ds x s))
one_kind (unsigned y cs ds) d x s (inr u) = one_kind ds d.1 x s u
one_kind (signed y t cs ds) d x (inl e) u = d.0 (subst (λ z. IsOneOf z (names ds)) e (unsigned_name ds x u))
one_kind (signed y t cs ds) d x (inr s) u = one_kind ds d.1 x s u
one_kind (matched k p cs ds) d x s (inl o) = distinct_apart (matched_names k p) (names ds) d x o (signed_name ds x s)
one_kind (matched k p cs ds) d x s (inr u) = one_kind ds (distinct_rest (matched_names k p) (names ds) d) x s u

pub own_signed : (ds : Bindings) (own : Identifier → Identifier → Bool) → AreUnits ds own → (x y : Identifier) → IsSigned x ds → own x y ≡ false
own_signed ds own units x y u = not_true (own x y) (λ e. one_kind ds units.0 x u ((units.1 x y).0 e).0)

-- a list, and what its body may see, from its bindings
abbrev pub MadeList : Bindings → Assumptions → Assumptions → (Identifier → Scheme) → Type 0
MadeList ds A A' B = (B' : Identifier → Scheme) × HasSchemes A' ds B' × AreAtMostAsGeneral (bind_all (names ds) B A) (bind_all (names ds) B' A') × ((x : Identifier) → IsOneOf x (names ds) → IsAtMostAsGeneral (B x) (B' x))

pub made_list : (ds : Bindings) (A A' : Assumptions) (B : Identifier → Scheme) → AreAtMostAsGeneral A A' → (own : Identifier → Identifier → Bool) → AreUnits ds own →
    ((n : ℕ) → AssumptionsBelow n (bind_all (names ds) B A') → ((x : Identifier) → IsUnsigned x ds → own x x ≡ true) → ((x : Identifier) → IsSigned x ds → own x x ≡ false) →
    HasBindings A' (λ x. bind_all (names ds) (seen own (λ z. instance (B z) (fresh n)) (remade own A' n B) x) A') (λ z. instance (B z) (fresh n)) (remade own A' n B) ds) →
    MadeList ds A A' B
made_list ds A A' B m own units bindings =
    let b = assumptions_bound (bind_all (names ds) B A') in
    let n = b.0 in
    let covers : (x : Identifier) → IsOneOf x (names ds) → IsAtMostAsGeneral (B x) (remade own A' n B x) = λ x o. general_remade own A' n B x (λ a i. b.1 a (FreeIn-bind_all-in (names ds) B A' a x o i)) (λ a f. b.1 a (FreeIn-bind_all-out (names ds) B A' a f)) in (
      remade own A' n B,
      record { own = own; units = units; types = λ z. instance (B z) (fresh n); bindings = bindings n b.1 (own_unsigned ds own units) (λ x. own_signed ds own units x x) },
      more-all (names ds) B (remade own A' n B) A A' covers m,
      covers,
    )

mutual
  pub HasType-Derives : (e : Expression) (A A' : Assumptions) (t : Monotype) → AreAtMostAsGeneral A A' → Derives A e t → HasType A' e t
  HasType-Derives (Variable x) A A' t m d = m x t d
  HasType-Derives (Constructor s) A A' t m d = d
  HasType-Derives (Literal l) A A' t m d = d
  HasType-Derives (Apply f e) A A' t m d = (d.0, (HasType-Derives f A A' _ m d.1.0, HasType-Derives e A A' _ m d.1.1))
  HasType-Derives (Lambda ps e) A A' t m d = record {
    variables = d.variables;
    parameters = d.parameters;
    result = d.result;
    function = d.function;
    matched = d.matched;
    body = HasType-Derives e _ _ _ (more-all (patterns_names ps) _ _ A A' (λ x o u i. i) m) d.body;
  }
  HasType-Derives (Let ds e) A A' t m d =
      let l = made_list ds A A' d.schemes m d.listed.own d.listed.units (λ n b f g. HasBindings-Derives ds A A' d.listed.own (names ds) d.schemes n m b f g d.listed.bindings) in
      record { schemes = l.0; listed = l.1; body = HasType-Derives e _ _ t l.2 d.body }
  HasType-Derives (If a b c) A A' t m d = (HasType-Derives a A A' _ m d.0, (HasType-Derives b A A' _ m d.1.0, HasType-Derives c A A' _ m d.1.1))
  HasType-Derives (Case e cs) A A' t m d = (d.0, (HasType-Derives e A A' _ m d.1.0, HasClauses-Derives cs A A' _ m d.1.1))
  HasType-Derives (Tuple es) A A' t m d = (d.0, (d.1.0, HasTypes-Derives es A A' _ 0 m d.1.1))
  HasType-Derives (Listing es) A A' t m d = (d.0, (d.1.0, HasTypes-Derives es A A' _ 0 m d.1.1))
  HasType-Derives (Typed e s) A A' t m d =
      let b = assumptions_bound A' in
      (record { variables = λ i. b.0 + i; are_new = is_new b.0 A' s b.1; typed = HasType-Derives e A A' _ m (d.0 (fresh b.0)) }, d.1)

  pub HasTypes-Derives : (es : Expressions) (A A' : Assumptions) (ts : ℕ → Monotype) (i : ℕ) → AreAtMostAsGeneral A A' → DeriveAll A es ts i → HasTypes A' es ts i
  HasTypes-Derives no_expression A A' ts i m d = d
  HasTypes-Derives (expression e es) A A' ts i m d = (HasType-Derives e A A' _ m d.0, HasTypes-Derives es A A' ts (suc i) m d.1)

  pub HasClauses-Derives : (cs : Clauses) (A A' : Assumptions) (v : Monotype) → AreAtMostAsGeneral A A' → DeriveClauses A cs v → HasClauses A' cs v
  HasClauses-Derives no_clause A A' v m d = d
  HasClauses-Derives (clause ps gs ds cs) A A' v m d =
      let c = d.0 in
      let p = c.body in
      let more = more-all (patterns_names ps) (λ x. monomorphic (c.variables x)) (λ x. monomorphic (c.variables x)) A A' (λ x o u i. i) m in
      let l = made_list ds _ _ p.schemes more p.listed.own p.listed.units (λ n b f g. HasBindings-Derives ds _ _ p.listed.own (names ds) p.schemes n more b f g p.listed.bindings) in (
        record {
          variables = c.variables;
          parameters = c.parameters;
          result = c.result;
          function = c.function;
          matched = c.matched;
          body = record { schemes = l.0; listed = l.1; body = HasRightSides-Derives gs _ _ c.result l.2 p.body };
        },
        HasClauses-Derives cs A A' v m d.1,
      )

  pub HasRightSides-Derives : (gs : RightSides) (A A' : Assumptions) (u : Monotype) → AreAtMostAsGeneral A A' → DeriveRightSides A gs u → HasRightSides A' gs u
  HasRightSides-Derives no_right_side A A' u m d = d
  HasRightSides-Derives (plain e gs) A A' u m d = (HasType-Derives e A A' _ m d.0, HasRightSides-Derives gs A A' u m d.1)
  HasRightSides-Derives (guarded g e gs) A A' u m d = (HasType-Derives g A A' _ m d.0, (HasType-Derives e A A' _ m d.1.0, HasRightSides-Derives gs A A' u m d.1.1))

  pub HasBindings-Derives : (ds : Bindings) (A A' : Assumptions) (own : Identifier → Identifier → Bool) (xs : List Identifier) (B : Identifier → Scheme) (n : ℕ) → AreAtMostAsGeneral A A' → AssumptionsBelow n (bind_all xs B A') →
      ((x : Identifier) → IsUnsigned x ds → own x x ≡ true) → ((x : Identifier) → IsSigned x ds → own x x ≡ false) → DeriveBindings A own xs B ds →
      HasBindings A' (λ x. bind_all xs (seen own (λ z. instance (B z) (fresh n)) (remade own A' n B) x) A') (λ z. instance (B z) (fresh n)) (remade own A' n B) ds
  HasBindings-Derives no_binding A A' own xs B n m b f g d = d
  HasBindings-Derives (unsigned x cs ds) A A' own xs B n m b f g d = (
    (ap (λ k. cond k (quantify A' (instance (B x) (fresh n))) (B x)) (f x (inl refl)), HasClauses-Derives cs _ _ _ (more-all xs _ _ A A' (λ y o. general_seen own A' n B x y (λ a i. b a (FreeIn-bind_all-in xs B A' a y o i)) (λ a k. b a (FreeIn-bind_all-out xs B A' a k))) m) (d.0 (fresh n))),
    HasBindings-Derives ds A A' own xs B n m b (λ y i. f y (inr i)) g d.1,
  )
  HasBindings-Derives (signed x s cs ds) A A' own xs B n m b f g d = (
    (
      ap (λ k. cond k (quantify A' (instance (B x) (fresh n))) (B x)) (g x (inl refl)) ∙ d.0.0,
      record {
        variables = λ i. n + i;
        are_new = is_new n A' s (λ a k. b a (FreeIn-bind_all-out xs B A' a k));
        typed = subst (HasClauses _ cs) (ap (λ σ. instance σ (fresh n)) d.0.0 ∙ instance_closed s (fresh n))
            (HasClauses-Derives cs _ _ _ (more-all xs _ _ A A' (λ y o. general_seen own A' n B x y (λ a i. b a (FreeIn-bind_all-in xs B A' a y o i)) (λ a k. b a (FreeIn-bind_all-out xs B A' a k))) m) (d.0.1 (fresh n)));
      },
    ),
    HasBindings-Derives ds A A' own xs B n m b f (λ y i. g y (inr i)) d.1,
  )
  HasBindings-Derives (matched k p cs ds) A A' own xs B n m b f g d = (
    record {
      fits = (d.0 (fresh n)).0;
      right_sides = HasClauses-Derives cs _ _ _ (more-all xs _ _ A A' (λ y o. general_seen own A' n B k y (λ a i. b a (FreeIn-bind_all-in xs B A' a y o i)) (λ a i. b a (FreeIn-bind_all-out xs B A' a i))) m) (d.0 (fresh n)).1;
      quantified = λ x o. ap (λ c. cond c (quantify A' (instance (B x) (fresh n))) (B x)) (f x (inl o));
    },
    HasBindings-Derives ds A A' own xs B n m b (λ y i. f y (inr i)) g d.1,
  )

-- What the second form makes of the first: substitutions that leave the variables free in A alone

pub opened_quantified : (A : Assumptions) (us : ℕ → Monotype) → ((a : ℕ) → FreeIn a A → opened (is_free_in a A) us a ≡ Var a)
opened_quantified A us a f = opened_free (is_free_in a A) us a f

pub env_opened : (A : Assumptions) (us : ℕ → Monotype) → assumptions_put (λ a. opened (is_free_in a A) us a) A ≡ A
env_opened A us = assumptions_put-agree _ Var A (opened_quantified A us) ∙ assumptions_put_Var A

pub scheme_opened : (A : Assumptions) (us : ℕ → Monotype) (σ : Scheme) → ((a : ℕ) → In (Free a) σ → FreeIn a A) → scheme_put (λ a. opened (is_free_in a A) us a) σ ≡ σ
scheme_opened A us σ f = scheme_put-agree _ Var σ (λ a i. opened_quantified A us a (f a i)) ∙ scheme_put_Var σ

pub opened_new : {P : Type 0} (d : Dec P) (us : ℕ → Monotype) (a : ℕ) → ¬ P → opened d us a ≡ us a
opened_new (yes p) us a n = absurd (n p)
opened_new (no m) us a n = refl

-- the variable of s that stands at a number, among those below k
pub variable_at : (s : Monotype) (ys : ℕ → ℕ) → ℕ → ℕ → ℕ
variable_at s ys zero a = 0
variable_at s ys (suc k) a = elim (occurs k s) [ yes i ↦ elim (ℕ_discrete (ys k) a) [ yes e ↦ k | no n ↦ variable_at s ys k a ] | no n ↦ variable_at s ys k a ]

pub variable_at-is : (A : Assumptions) (s : Monotype) (ys : ℕ → ℕ) → AreNew A s ys → (k i : ℕ) → i < k → In i s → variable_at s ys k (ys i) ≡ i
unfolding variable_at
variable_at-is A s ys new zero i l h = absurd (omega arith)
variable_at-is A s ys new (suc k) i l h = go (λ m. variable_at-is A s ys new k i m h) (occurs k s) (ℕ_discrete (ys k) (ys i)) (ℕ_discrete i k)
  where
    smaller : ¬ (i ≡ k) → i < k
    smaller n = ⊎_elim (λ e. absurd (n e)) (λ m. m) (Rattle.std.proofs.Common.eq-or-lt_of_le (le l))
      where
        le : i < suc k → i ≤ k
        le m = omega arith

    go : (i < k → variable_at s ys k (ys i) ≡ i) → (p : Dec (In k s)) (q : Dec (ys k ≡ ys i)) → Dec (i ≡ k) → elim p [ yes j ↦ elim q [ yes e ↦ k | no n ↦ variable_at s ys k (ys i) ] | no n ↦ variable_at s ys k (ys i) ] ≡ i
    go ih (yes j) (yes e) d = new.distinct k i j h e
    go ih (yes j) (no n) (yes d) = absurd (n (ap ys (sym d)))
    go ih (yes j) (no n) (no m) = ih (smaller m)
    go ih (no n) q (yes d) = absurd (n (subst (λ z. In z s) d h))
    go ih (no n) q (no m) = ih (smaller m)

-- new variables, opened
abbrev pub index : Monotype → (ℕ → ℕ) → ℕ → ℕ
index s ys a = variable_at s ys (vars_bound s).0 a

pub put_new : (A : Assumptions) (s : Monotype) (ys : ℕ → ℕ) (new : AreNew A s ys) (us : ℕ → Monotype) → put (λ a. opened (is_free_in a A) (λ b. us (index s ys b)) a) (put (λ i. Var (ys i)) s) ≡ put us s
put_new A s ys new us =
    put-put _ (λ i. Var (ys i)) s ∙ put-agree _ us s (λ i j. opened_new (is_free_in (ys i) A) _ (ys i) (new.new i j) ∙ ap us (variable_at-is A s ys new (vars_bound s).0 i ((vars_bound s).1 i j) j))

pub In_closed : (s : Monotype) (a : ℕ) → In (Free a) (closed s) → ⊥
In_closed s a i = let h = In-put (λ j. Var (Quantified j)) (Free a) s i in subst IsFree h.2 tt

-- what B is, from its bindings
pub is_quantified : (ds : Bindings) (A : Assumptions) (sees : Identifier → Assumptions) (ts : Identifier → Monotype) (B : Identifier → Scheme) → HasBindings A sees ts B ds → (x : Identifier) → IsUnsigned x ds → B x ≡ quantify A (ts x)
is_quantified no_binding A sees ts B h x u = absurd u
is_quantified (unsigned y cs ds) A sees ts B h x (inl e) = subst (λ z. B z ≡ quantify A (ts z)) (sym e) h.0.0
is_quantified (unsigned y cs ds) A sees ts B h x (inr u) = is_quantified ds A sees ts B h.1 x u
is_quantified (signed y s cs ds) A sees ts B h x u = is_quantified ds A sees ts B h.1 x u
is_quantified (matched k p cs ds) A sees ts B h x (inl o) = h.0.quantified x o
is_quantified (matched k p cs ds) A sees ts B h x (inr u) = is_quantified ds A sees ts B h.1 x u

pub no_others : (ds : Bindings) (A : Assumptions) (sees : Identifier → Assumptions) (ts : Identifier → Monotype) (B : Identifier → Scheme) → HasBindings A sees ts B ds → (x : Identifier) → IsOneOf x (names ds) → (a : ℕ) → In (Free a) (B x) → FreeIn a A
no_others no_binding A sees ts B h x o a i = absurd o
no_others (unsigned y cs ds) A sees ts B h x (inl e) a i = In_quantify A (ts y) a (subst (In (Free a)) (ap B e ∙ h.0.0) i)
no_others (unsigned y cs ds) A sees ts B h x (inr o) a i = no_others ds A sees ts B h.1 x o a i
no_others (signed y s cs ds) A sees ts B h x (inl e) a i = absurd (In_closed s a (subst (In (Free a)) (ap B e ∙ h.0.0) i))
no_others (signed y s cs ds) A sees ts B h x (inr o) a i = no_others ds A sees ts B h.1 x o a i
no_others (matched k p cs ds) A sees ts B h x o a i = ⊎_elim (λ q. In_quantify A (ts x) a (subst (In (Free a)) (h.0.quantified x q) i)) (λ q. no_others ds A sees ts B h.1 x q a i) (one_of x (matched_names k p) (names ds) o)

-- what an unsigned binding sees, opened
pub env_seen : (own : Identifier → Identifier → Bool) (ts : Identifier → Monotype) (B : Identifier → Scheme) (x : Identifier) (xs : List Identifier) (A : Assumptions) (us : ℕ → Monotype) →
    ((y : Identifier) → IsOneOf y xs → (a : ℕ) → In (Free a) (B y) → FreeIn a A) → ((y : Identifier) → own x y ≡ true → B y ≡ quantify A (ts y)) →
    assumptions_put (λ a. opened (is_free_in a A) us a) (bind_all xs (seen own ts B x) A) ≡ bind_all xs (seen_at own B us x) A
env_seen own ts B x xs A us f g = assumptions_put-bind_all _ xs _ A ∙ bind_all-agree xs _ _ _ _ (λ y o. at y o (own x y) refl) (env_opened A us)
  where
    w : ℕ → Monotype
    w a = opened (is_free_in a A) us a

    at : (y : Identifier) → IsOneOf y xs → (c : Bool) → own x y ≡ c → scheme_put w (cond c (monomorphic (ts y)) (B y)) ≡ cond c (monomorphic (instance (B y) us)) (B y)
    at y o true e = scheme_put_mono w (ts y) ∙ ap monomorphic (quantified_instance A (ts y) us ∙ ap (λ σ. instance σ us) (sym (g y e)))
    at y o false e = scheme_opened A us (B y) (f y o)

-- what a signed binding sees
pub env_signed : (own : Identifier → Identifier → Bool) (ts : Identifier → Monotype) (B : Identifier → Scheme) (x : Identifier) (xs : List Identifier) (A : Assumptions) (us vs : ℕ → Monotype) →
    ((y : Identifier) → IsOneOf y xs → (a : ℕ) → In (Free a) (B y) → FreeIn a A) → ((y : Identifier) → own x y ≡ false) →
    assumptions_put (λ a. opened (is_free_in a A) us a) (bind_all xs (seen own ts B x) A) ≡ bind_all xs (seen_at own B vs x) A
env_signed own ts B x xs A us vs f g = assumptions_put-bind_all _ xs _ A ∙ bind_all-agree xs _ _ _ _ (λ y o. at y o (own x y) (g y)) (env_opened A us)
  where
    w : ℕ → Monotype
    w a = opened (is_free_in a A) us a

    at : (y : Identifier) → IsOneOf y xs → (c : Bool) → c ≡ false → scheme_put w (cond c (monomorphic (ts y)) (B y)) ≡ cond c (monomorphic (instance (B y) vs)) (B y)
    at y o true e = absurd (true≢false e)
    at y o false e = scheme_opened A us (B y) (f y o)

mutual
  pub Derives-HasType : (e : Expression) (A : Assumptions) (t : Monotype) → HasType A e t → Derives A e t
  Derives-HasType (Variable x) A t d = d
  Derives-HasType (Constructor s) A t d = d
  Derives-HasType (Literal l) A t d = d
  Derives-HasType (Apply f e) A t d = (d.0, (Derives-HasType f A _ d.1.0, Derives-HasType e A _ d.1.1))
  Derives-HasType (Lambda ps e) A t d = record {
    variables = d.variables;
    parameters = d.parameters;
    result = d.result;
    function = d.function;
    matched = d.matched;
    body = Derives-HasType e _ _ d.body;
  }
  Derives-HasType (Let ds e) A t d = let l = d.listed in record {
    schemes = d.schemes;
    listed = record {
      own = l.own;
      units = l.units;
      bindings = DeriveBindings-Has ds A l.own (names ds) l.types d.schemes (λ x y e. is_quantified ds A _ l.types d.schemes l.bindings y ((l.units.1 x y).0 e).1) (no_others ds A _ l.types d.schemes l.bindings) (own_signed ds l.own l.units) l.bindings;
    };
    body = Derives-HasType e _ t d.body;
  }
  Derives-HasType (If a b c) A t d = (Derives-HasType a A _ d.0, (Derives-HasType b A _ d.1.0, Derives-HasType c A _ d.1.1))
  Derives-HasType (Case e cs) A t d = (d.0, (Derives-HasType e A _ d.1.0, DeriveClauses-Has cs A _ d.1.1))
  Derives-HasType (Tuple es) A t d = (d.0, (d.1.0, DeriveAll-Has es A _ 0 d.1.1))
  Derives-HasType (Listing es) A t d = (d.0, (d.1.0, DeriveAll-Has es A _ 0 d.1.1))
  Derives-HasType (Typed e s) A t d = (
    (λ us. subst₂ (λ C v. Derives C e v) (env_opened A (λ b. us (index s d.0.variables b))) (put_new A s d.0.variables d.0.are_new us)
        (Derives-put e (λ a. opened (is_free_in a A) (λ b. us (index s d.0.variables b)) a) A _ (Derives-HasType e A _ d.0.typed))),
    d.1,
  )

  pub DeriveAll-Has : (es : Expressions) (A : Assumptions) (ts : ℕ → Monotype) (i : ℕ) → HasTypes A es ts i → DeriveAll A es ts i
  DeriveAll-Has no_expression A ts i d = d
  DeriveAll-Has (expression e es) A ts i d = (Derives-HasType e A _ d.0, DeriveAll-Has es A ts (suc i) d.1)

  pub DeriveClauses-Has : (cs : Clauses) (A : Assumptions) (v : Monotype) → HasClauses A cs v → DeriveClauses A cs v
  DeriveClauses-Has no_clause A v d = d
  DeriveClauses-Has (clause ps gs ds cs) A v d =
      let c = d.0 in
      let p = c.body in
      let l = p.listed in (
        record {
          variables = c.variables;
          parameters = c.parameters;
          result = c.result;
          function = c.function;
          matched = c.matched;
          body = record {
            schemes = p.schemes;
            listed = record {
              own = l.own;
              units = l.units;
              bindings = DeriveBindings-Has ds _ l.own (names ds) l.types p.schemes (λ x y e. is_quantified ds _ _ l.types p.schemes l.bindings y ((l.units.1 x y).0 e).1) (no_others ds _ _ l.types p.schemes l.bindings) (own_signed ds l.own l.units) l.bindings;
            };
            body = DeriveRightSides-Has gs _ c.result p.body;
          };
        },
        DeriveClauses-Has cs A v d.1,
      )

  pub DeriveRightSides-Has : (gs : RightSides) (A : Assumptions) (u : Monotype) → HasRightSides A gs u → DeriveRightSides A gs u
  DeriveRightSides-Has no_right_side A u d = d
  DeriveRightSides-Has (plain e gs) A u d = (Derives-HasType e A _ d.0, DeriveRightSides-Has gs A u d.1)
  DeriveRightSides-Has (guarded g e gs) A u d = (Derives-HasType g A _ d.0, (Derives-HasType e A _ d.1.0, DeriveRightSides-Has gs A u d.1.1))

  pub DeriveBindings-Has : (ds : Bindings) (A : Assumptions) (own : Identifier → Identifier → Bool) (xs : List Identifier) (ts : Identifier → Monotype) (B : Identifier → Scheme) →
      ((x y : Identifier) → own x y ≡ true → B y ≡ quantify A (ts y)) → ((y : Identifier) → IsOneOf y xs → (a : ℕ) → In (Free a) (B y) → FreeIn a A) → ((x y : Identifier) → IsSigned x ds → own x y ≡ false) →
      HasBindings A (λ x. bind_all xs (seen own ts B x) A) ts B ds → DeriveBindings A own xs B ds
  DeriveBindings-Has no_binding A own xs ts B q f g d = d
  DeriveBindings-Has (unsigned x cs ds) A own xs ts B q f g d = (
    (λ us. subst₂ (λ C v. DeriveClauses C cs v) (env_seen own ts B x xs A us f (q x)) (quantified_instance A (ts x) us ∙ ap (λ σ. instance σ us) (sym d.0.0))
        (DeriveClauses-put cs (λ a. opened (is_free_in a A) us a) _ _ (DeriveClauses-Has cs _ _ d.0.1))),
    DeriveBindings-Has ds A own xs ts B q f g d.1,
  )
  DeriveBindings-Has (signed x s cs ds) A own xs ts B q f g d = (
    (
      d.0.0,
      λ us. subst₂ (λ C v. DeriveClauses C cs v) (env_signed own ts B x xs A (λ b. us (index s d.0.1.variables b)) us f (λ y. g x y (inl refl))) (put_new A s d.0.1.variables d.0.1.are_new us ∙ (sym (instance_closed s us) ∙ ap (λ σ. instance σ us) (sym d.0.0)))
          (DeriveClauses-put cs (λ a. opened (is_free_in a A) (λ b. us (index s d.0.1.variables b)) a) _ _ (DeriveClauses-Has cs _ _ d.0.1.typed)),
    ),
    DeriveBindings-Has ds A own xs ts B q f (λ y z i. g y z (inr i)) d.1,
  )
  DeriveBindings-Has (matched k p cs ds) A own xs ts B q f g d = (
    (λ us.
        let at : (x : Identifier) → IsOneOf x (matched_names k p) → put (λ a. opened (is_free_in a A) us a) (ts x) ≡ instance (B x) us = λ x o. quantified_instance A (ts x) us ∙ ap (λ σ. instance σ us) (sym (d.0.quantified x o)) in (
          Matches-named k p _ _ at (Matches-put p (λ a. opened (is_free_in a A) us a) ts (ts k) d.0.fits),
          subst₂ (λ C v. DeriveClauses C cs v) (env_seen own ts B k xs A us f (q k)) (at k (own_name k p)) (DeriveClauses-put cs (λ a. opened (is_free_in a A) us a) _ _ (DeriveClauses-Has cs _ _ d.0.right_sides)),
        )),
    DeriveBindings-Has ds A own xs ts B q f g d.1,
  )

-- a list under more general assumptions is typed by schemes that are no less general
pub HasSchemes-more : (ds : Bindings) (A A' : Assumptions) (B : Identifier → Scheme) → AreAtMostAsGeneral A A' → HasSchemes A ds B →
    (B' : Identifier → Scheme) × HasSchemes A' ds B' × ((x : Identifier) → IsOneOf x (names ds) → IsAtMostAsGeneral (B x) (B' x))
HasSchemes-more ds A A' B m l =
    let d = DeriveBindings-Has ds A l.own (names ds) l.types B (λ x y e. is_quantified ds A _ l.types B l.bindings y ((l.units.1 x y).0 e).1) (no_others ds A _ l.types B l.bindings) (own_signed ds l.own l.units) l.bindings in
    let k = made_list ds A A' B m l.own l.units (λ n b f g. HasBindings-Derives ds A A' l.own (names ds) B n m b f g d) in
    (k.0, k.1, k.3)
