-- Typing is closed under substitution.
use Rattle.hm_types.specs.declared.Head.TheVariants as head
use Rattle.std.proofs.Common.{◌≡◌, ℕ, zero, suc, List, Bool, true, false, cond, inl, inr, refl, sym, ap, ◌∙◌, subst, subst₂, ◌+◌}
use Rattle.hm_types.specs.Types.{Var, App, more, put, put_all}
use Rattle.hm_typing.specs.Names.{IsOneOf, Identifier}
use Rattle.hm_typing.specs.Schemes.{Monotype, Scheme, arrow, instance, monomorphic, scheme_put}
use Rattle.hm_typing.specs.Assumptions.{Assumptions, bind, assumptions_put, bind_all}
use Rattle.hm_typing.specs.Syntax.{LiteralKind, Integer, Character, Text, Pattern, VariablePattern, AsPattern, ConstructorPattern, LiteralPattern, WildcardPattern, TuplePattern, ListPattern, LazyPattern, Patterns, no_pattern, pattern, Expression, Variable, Constructor, Literal, Apply, Lambda, Let, If, Case, Tuple, Listing, Typed, Expressions, no_expression, expression, Clauses, no_clause, clause, RightSides, no_right_side, plain, guarded, Bindings, no_binding, unsigned, signed, matched, bool, literal_type, patterns_names, matched_names, names, pattern_count, expression_count}
use Rattle.hm_typing.specs.Patterns.{arguments, arrows, Matches, MatchesAll}
use Rattle.hm_typing.specs.SecondForm.{Derives, DeriveAll, DeriveClauses, DeriveRightSides, DeriveBindings, seen_at}
use Rattle.hm_typing.proofs.Types.{put-agree, put-put}
use Rattle.hm_typing.proofs.SchemeLaws.{split, split_below, split_from, instance_put, scheme_put_mono, scheme_put-agree, assumptions_put-agree, SchemeBelow, AssumptionsBelow, assumptions_bound, Has_put, put_split}
use Rattle.hm_typing.proofs.Matching.{own_name, Matches-named}
use Rattle.hm_typing.proofs.Bind.{bind_all-agree, assumptions_put-bind_all, scheme_put_closed, FreeIn-bind_all-in, FreeIn-bind_all-out}

pub put-arrows : (r : ℕ → Monotype) (k : ℕ) (ts : ℕ → Monotype) (i : ℕ) (u : Monotype) → put r (arrows k ts i u) ≡ arrows k (λ j. put r (ts j)) i (put r u)
put-arrows r zero ts i u = refl
put-arrows r (suc k) ts i u = ap (arrow (put r (ts i))) (put-arrows r k ts (suc i) u)

pub put-arguments : (r : ℕ → Monotype) (k : ℕ) (ts : ℕ → Monotype) (i : ℕ) → put_all r (arguments k ts i) ≡ arguments k (λ j. put r (ts j)) i
put-arguments r zero ts i = refl
put-arguments r (suc k) ts i = ap (more (put r (ts i))) (put-arguments r k ts (suc i))

pub put-lit : (r : ℕ → Monotype) (l : LiteralKind) → put r (literal_type l) ≡ literal_type l
put-lit r Integer = refl
put-lit r Character = refl
put-lit r Text = refl

mutual
  pub Matches-put : (p : Pattern) (r : ℕ → Monotype) (τ : Identifier → Monotype) (t : Monotype) → Matches τ p t → Matches (λ x. put r (τ x)) p (put r t)
  Matches-put (VariablePattern x) r τ t m = ap (put r) m
  Matches-put (AsPattern x p) r τ t m = (ap (put r) m.0, Matches-put p r τ t m.1)
  Matches-put (ConstructorPattern s ps) r τ t m =
      ((λ j. put r (m.0 j)), (((λ i. put r (m.1.0.0 i)), sym (put-arrows r (pattern_count ps) m.0 0 t) ∙ (ap (put r) m.1.0.1 ∙ put-put r m.1.0.0 s)), MatchesAll-put ps r τ m.0 0 m.1.1))
  Matches-put (LiteralPattern l) r τ t m = ap (put r) m ∙ put-lit r l
  Matches-put WildcardPattern r τ t m = tt
  Matches-put (TuplePattern ps) r τ t m = ((λ j. put r (m.0 j)), (ap (put r) m.1.0 ∙ ap (App (head.Tuple (pattern_count ps))) (put-arguments r (pattern_count ps) m.0 0), MatchesAll-put ps r τ m.0 0 m.1.1))
  Matches-put (ListPattern ps) r τ t m = (put r m.0, (ap (put r) m.1.0, MatchesAll-put ps r τ (λ j. m.0) 0 m.1.1))
  Matches-put (LazyPattern p) r τ t m = Matches-put p r τ t m

  pub MatchesAll-put : (ps : Patterns) (r : ℕ → Monotype) (τ : Identifier → Monotype) (ts : ℕ → Monotype) (i : ℕ) → MatchesAll τ ps ts i → MatchesAll (λ x. put r (τ x)) ps (λ j. put r (ts j)) i
  MatchesAll-put no_pattern r τ ts i m = tt
  MatchesAll-put (pattern p ps) r τ ts i m = (Matches-put p r τ (ts i) m.0, MatchesAll-put ps r τ ts (suc i) m.1)

pub assumptions_put-bind_mono : (r : ℕ → Monotype) (xs : List Identifier) (τ : Identifier → Monotype) (A : Assumptions) → assumptions_put r (bind_all xs (λ x. monomorphic (τ x)) A) ≡ bind_all xs (λ x. monomorphic (put r (τ x))) (assumptions_put r A)
assumptions_put-bind_mono r xs τ A = assumptions_put-bind_all r xs _ A ∙ bind_all-agree xs _ _ _ _ (λ x o. scheme_put_mono r (τ x)) refl

-- what a binding sees at an instance, under the substitution that takes fresh variables to that instance
pub assumptions_put-seen_at : (own : Identifier → Identifier → Bool) (B : Identifier → Scheme) (r us : ℕ → Monotype) (x : Identifier) (xs : List Identifier) (A : Assumptions) (n : ℕ) → AssumptionsBelow n (bind_all xs B A) →
    assumptions_put (split n r us) (bind_all xs (seen_at own B (λ i. Var (n + i)) x) A) ≡ bind_all xs (seen_at own (λ y. scheme_put r (B y)) us x) (assumptions_put r A)
assumptions_put-seen_at own B r us x xs A n b =
    assumptions_put-bind_all (split n r us) xs _ A ∙ bind_all-agree xs _ _ _ _ (λ y o. at y o (own x y)) (assumptions_put-agree (split n r us) r A (λ a f. split_below n r us a (b a (FreeIn-bind_all-out xs B A a f))))
  where
    below : (y : Identifier) → IsOneOf y xs → SchemeBelow n (B y)
    below y o a i = b a (FreeIn-bind_all-in xs B A a y o i)

    at : (y : Identifier) → IsOneOf y xs → (c : Bool) → scheme_put (split n r us) (cond c (monomorphic (instance (B y) (λ i. Var (n + i)))) (B y)) ≡ cond c (monomorphic (instance (scheme_put r (B y)) us)) (scheme_put r (B y))
    at y o true = scheme_put_mono (split n r us) _ ∙ ap monomorphic (put_split n r us (B y) (below y o) ∙ sym (instance_put r us (B y)))
    at y o false = scheme_put-agree (split n r us) r (B y) (λ a i. split_below n r us a (below y o a i))

-- a bound for what a binding sees and for its scheme
pub list_bound : (xs : List Identifier) (B : Identifier → Scheme) (A : Assumptions) (x : Identifier) → (n : ℕ) × AssumptionsBelow n (bind_all xs B A) × SchemeBelow n (B x)
list_bound xs B A x = let b = assumptions_bound (bind x (B x) (bind_all xs B A)) in (b.0, (λ a f. b.1 a (inr f)), (λ a i. b.1 a (inl i)))

-- the same for the names of a pattern binding
pub matched_bound : (xs ys : List Identifier) (B : Identifier → Scheme) (A : Assumptions) → (n : ℕ) × AssumptionsBelow n (bind_all xs B A) × ((x : Identifier) → IsOneOf x ys → SchemeBelow n (B x))
matched_bound xs ys B A =
    let b = assumptions_bound (bind_all ys B (bind_all xs B A)) in
    (b.0, (λ a f. b.1 a (FreeIn-bind_all-out ys B (bind_all xs B A) a f)), (λ x o a i. b.1 a (FreeIn-bind_all-in ys B (bind_all xs B A) a x o i)))

mutual
  pub Derives-put : (e : Expression) (r : ℕ → Monotype) (A : Assumptions) (t : Monotype) → Derives A e t → Derives (assumptions_put r A) e (put r t)
  Derives-put (Variable x) r A t d = Has_put r A x t d
  Derives-put (Constructor s) r A t d = ((λ i. put r (d.0 i)), ap (put r) d.1 ∙ put-put r d.0 s)
  Derives-put (Literal l) r A t d = ap (put r) d ∙ put-lit r l
  Derives-put (Apply f e) r A t d = (put r d.0, (Derives-put f r A _ d.1.0, Derives-put e r A _ d.1.1))
  Derives-put (Lambda ps e) r A t d = record {
    variables = λ x. put r (d.variables x);
    parameters = λ j. put r (d.parameters j);
    result = put r d.result;
    function = ap (put r) d.function ∙ put-arrows r (pattern_count ps) d.parameters 0 d.result;
    matched = MatchesAll-put ps r d.variables d.parameters 0 d.matched;
    body = subst (λ C. Derives C e (put r d.result)) (assumptions_put-bind_mono r (patterns_names ps) d.variables A) (Derives-put e r _ _ d.body);
  }
  Derives-put (Let ds e) r A t d = record {
    schemes = λ x. scheme_put r (d.schemes x);
    listed = record { own = d.listed.own; units = d.listed.units; bindings = DeriveBindings-put ds r A d.listed.own (names ds) d.schemes d.listed.bindings };
    body = subst (λ C. Derives C e (put r t)) (assumptions_put-bind_all r (names ds) d.schemes A) (Derives-put e r _ t d.body);
  }
  Derives-put (If a b c) r A t d = (Derives-put a r A bool d.0, (Derives-put b r A t d.1.0, Derives-put c r A t d.1.1))
  Derives-put (Case e cs) r A t d = (put r d.0, (Derives-put e r A _ d.1.0, DeriveClauses-put cs r A _ d.1.1))
  Derives-put (Tuple es) r A t d = ((λ j. put r (d.0 j)), (ap (put r) d.1.0 ∙ ap (App (head.Tuple (expression_count es))) (put-arguments r (expression_count es) d.0 0), DeriveAll-put es r A d.0 0 d.1.1))
  Derives-put (Listing es) r A t d = (put r d.0, (ap (put r) d.1.0, DeriveAll-put es r A (λ j. d.0) 0 d.1.1))
  Derives-put (Typed e s) r A t d =
      let bound = assumptions_bound A in
      let n = bound.0 in (
        (λ us. subst₂ (λ C v. Derives C e v) (assumptions_put-agree (split n r us) r A (λ a f. split_below n r us a (bound.1 a f))) (put-put (split n r us) (λ i. Var (n + i)) s ∙ put-agree _ us s (λ i j. split_from n r us i))
            (Derives-put e (split n r us) A (put (λ i. Var (n + i)) s) (d.0 (λ i. Var (n + i))))),
        ((λ i. put r (d.1.0 i)), ap (put r) d.1.1 ∙ put-put r d.1.0 s),
      )

  pub DeriveAll-put : (es : Expressions) (r : ℕ → Monotype) (A : Assumptions) (ts : ℕ → Monotype) (i : ℕ) → DeriveAll A es ts i → DeriveAll (assumptions_put r A) es (λ j. put r (ts j)) i
  DeriveAll-put no_expression r A ts i d = tt
  DeriveAll-put (expression e es) r A ts i d = (Derives-put e r A (ts i) d.0, DeriveAll-put es r A ts (suc i) d.1)

  pub DeriveClauses-put : (cs : Clauses) (r : ℕ → Monotype) (A : Assumptions) (v : Monotype) → DeriveClauses A cs v → DeriveClauses (assumptions_put r A) cs (put r v)
  DeriveClauses-put no_clause r A v d = tt
  DeriveClauses-put (clause ps gs ds cs) r A v d =
      let c = d.0 in
      let l = c.body in
      let env = assumptions_put-bind_mono r (patterns_names ps) c.variables A in (
        record {
          variables = λ x. put r (c.variables x);
          parameters = λ j. put r (c.parameters j);
          result = put r c.result;
          function = ap (put r) c.function ∙ put-arrows r (pattern_count ps) c.parameters 0 c.result;
          matched = MatchesAll-put ps r c.variables c.parameters 0 c.matched;
          body = record {
            schemes = λ x. scheme_put r (l.schemes x);
            listed = record {
              own = l.listed.own;
              units = l.listed.units;
              bindings = subst (λ C. DeriveBindings C l.listed.own (names ds) (λ x. scheme_put r (l.schemes x)) ds) env (DeriveBindings-put ds r _ l.listed.own (names ds) l.schemes l.listed.bindings);
            };
            body = subst (λ C. DeriveRightSides (bind_all (names ds) (λ x. scheme_put r (l.schemes x)) C) gs (put r c.result)) env
                (subst (λ C. DeriveRightSides C gs (put r c.result)) (assumptions_put-bind_all r (names ds) l.schemes _) (DeriveRightSides-put gs r _ c.result l.body));
          };
        },
        DeriveClauses-put cs r A v d.1,
      )

  pub DeriveRightSides-put : (gs : RightSides) (r : ℕ → Monotype) (A : Assumptions) (u : Monotype) → DeriveRightSides A gs u → DeriveRightSides (assumptions_put r A) gs (put r u)
  DeriveRightSides-put no_right_side r A u d = tt
  DeriveRightSides-put (plain e gs) r A u d = (Derives-put e r A u d.0, DeriveRightSides-put gs r A u d.1)
  DeriveRightSides-put (guarded g e gs) r A u d = (Derives-put g r A bool d.0, (Derives-put e r A u d.1.0, DeriveRightSides-put gs r A u d.1.1))

  pub DeriveBindings-put : (ds : Bindings) (r : ℕ → Monotype) (A : Assumptions) (own : Identifier → Identifier → Bool) (xs : List Identifier) (B : Identifier → Scheme) → DeriveBindings A own xs B ds → DeriveBindings (assumptions_put r A) own xs (λ x. scheme_put r (B x)) ds
  DeriveBindings-put no_binding r A own xs B d = tt
  DeriveBindings-put (unsigned x cs ds) r A own xs B d =
      let b = list_bound xs B A x in
      let n = b.0 in (
        (λ us. subst₂ (λ C v. DeriveClauses C cs v) (assumptions_put-seen_at own B r us x xs A n b.1) (put_split n r us (B x) b.2 ∙ sym (instance_put r us (B x)))
            (DeriveClauses-put cs (split n r us) _ (instance (B x) (λ i. Var (n + i))) (d.0 (λ i. Var (n + i))))),
        DeriveBindings-put ds r A own xs B d.1,
      )
  DeriveBindings-put (signed x s cs ds) r A own xs B d =
      let b = list_bound xs B A x in
      let n = b.0 in (
        (
          ap (scheme_put r) d.0.0 ∙ scheme_put_closed r s,
          λ us. subst₂ (λ C v. DeriveClauses C cs v) (assumptions_put-seen_at own B r us x xs A n b.1) (put_split n r us (B x) b.2 ∙ sym (instance_put r us (B x)))
              (DeriveClauses-put cs (split n r us) _ (instance (B x) (λ i. Var (n + i))) (d.0.1 (λ i. Var (n + i)))),
        ),
        DeriveBindings-put ds r A own xs B d.1,
      )
  DeriveBindings-put (matched k p cs ds) r A own xs B d =
      let b = matched_bound xs (matched_names k p) B A in
      let n = b.0 in (
        (λ us.
            let at : (x : Identifier) → IsOneOf x (matched_names k p) → put (split n r us) (instance (B x) (λ i. Var (n + i))) ≡ instance (scheme_put r (B x)) us = λ x o. put_split n r us (B x) (b.2 x o) ∙ sym (instance_put r us (B x)) in
            let given = d.0 (λ i. Var (n + i)) in (
              Matches-named k p _ _ at (Matches-put p (split n r us) (λ x. instance (B x) (λ i. Var (n + i))) _ given.0),
              subst₂ (λ C v. DeriveClauses C cs v) (assumptions_put-seen_at own B r us k xs A n b.1) (at k (own_name k p)) (DeriveClauses-put cs (split n r us) _ (instance (B k) (λ i. Var (n + i))) given.1),
            )),
        DeriveBindings-put ds r A own xs B d.1,
      )
