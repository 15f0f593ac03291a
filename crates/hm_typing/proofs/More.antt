-- Typing survives more general assumptions, of the names that are mentioned.
use Rattle.std.proofs.Common.{ℕ, suc, List, Bool, inl, inr, ◌⊎◌, refl}
use Rattle.hm_typing.specs.Names.{IsOneOf, Identifier}
use Rattle.hm_typing.specs.Schemes.{Monotype, Scheme, monomorphic}
use Rattle.hm_typing.specs.Assumptions.{Assumptions, Has, bind_all}
use Rattle.hm_typing.specs.Syntax.{Expression, Variable, Constructor, Literal, Apply, Lambda, Let, If, Case, Tuple, Listing, Typed, Expressions, no_expression, expression, Clauses, no_clause, clause, RightSides, no_right_side, plain, guarded, Bindings, no_binding, unsigned, signed, matched, patterns_names, names}
use Rattle.hm_typing.specs.Mentions.{Mentions, ExpressionsMention, ClausesMention, RightSidesMention, BindingsMention}
use Rattle.hm_typing.specs.SecondForm.{Derives, DeriveAll, DeriveClauses, DeriveRightSides, DeriveBindings, seen_at}
use Rattle.hm_typing.proofs.Bind.{Has-bind_all}

-- of the names for which M holds, A' has each instance that A has
abbrev pub IsMoreOn : (Identifier → Type 0) → Assumptions → Assumptions → Type 0
IsMoreOn M A A' = (x : Identifier) → M x → (t : Monotype) → Has A x t → Has A' x t

pub more-bind_all : (M N : Identifier → Type 0) (xs : List Identifier) (s : Identifier → Scheme) (A A' : Assumptions) → ((x : Identifier) → M x → ¬ (IsOneOf x xs) → N x) → IsMoreOn N A A' → IsMoreOn M (bind_all xs s A) (bind_all xs s A')
more-bind_all M N xs s A A' f m x i = Has-bind_all xs s s A A' x (λ o t h. h) (λ o. m x (f x i o))

mutual
  pub Derives-more : (e : Expression) (A A' : Assumptions) (t : Monotype) → IsMoreOn (λ x. Mentions x e) A A' → Derives A e t → Derives A' e t
  Derives-more (Variable x) A A' t m d = m x refl t d
  Derives-more (Constructor s) A A' t m d = d
  Derives-more (Literal l) A A' t m d = d
  Derives-more (Apply f e) A A' t m d = (d.0, (Derives-more f A A' _ (λ x i. m x (inl i)) d.1.0, Derives-more e A A' _ (λ x i. m x (inr i)) d.1.1))
  Derives-more (Lambda ps e) A A' t m d = record {
    variables = d.variables;
    parameters = d.parameters;
    result = d.result;
    function = d.function;
    matched = d.matched;
    body = Derives-more e _ _ _ (more-bind_all _ (λ x. Mentions x (Lambda ps e)) (patterns_names ps) (λ x. monomorphic (d.variables x)) A A' (λ x i o. (o, i)) m) d.body;
  }
  Derives-more (Let ds e) A A' t m d = record {
    schemes = d.schemes;
    listed = record { own = d.listed.own; units = d.listed.units; bindings = DeriveBindings-more ds A A' d.listed.own (names ds) d.schemes (λ x p. m x (p.1, inl p.0)) d.listed.bindings };
    body = Derives-more e _ _ t (more-bind_all _ (λ x. Mentions x (Let ds e)) (names ds) d.schemes A A' (λ x i o. (o, inr i)) m) d.body;
  }
  Derives-more (If a b c) A A' t m d = (Derives-more a A A' _ (λ x i. m x (inl i)) d.0, (Derives-more b A A' _ (λ x i. m x (inr (inl i))) d.1.0, Derives-more c A A' _ (λ x i. m x (inr (inr i))) d.1.1))
  Derives-more (Case e cs) A A' t m d = (d.0, (Derives-more e A A' _ (λ x i. m x (inl i)) d.1.0, DeriveClauses-more cs A A' _ (λ x i. m x (inr i)) d.1.1))
  Derives-more (Tuple es) A A' t m d = (d.0, (d.1.0, DeriveAll-more es A A' _ 0 m d.1.1))
  Derives-more (Listing es) A A' t m d = (d.0, (d.1.0, DeriveAll-more es A A' _ 0 m d.1.1))
  Derives-more (Typed e s) A A' t m d = ((λ us. Derives-more e A A' _ m (d.0 us)), d.1)

  pub DeriveAll-more : (es : Expressions) (A A' : Assumptions) (ts : ℕ → Monotype) (i : ℕ) → IsMoreOn (λ x. ExpressionsMention x es) A A' → DeriveAll A es ts i → DeriveAll A' es ts i
  DeriveAll-more no_expression A A' ts i m d = d
  DeriveAll-more (expression e es) A A' ts i m d = (Derives-more e A A' _ (λ x j. m x (inl j)) d.0, DeriveAll-more es A A' ts (suc i) (λ x j. m x (inr j)) d.1)

  pub DeriveClauses-more : (cs : Clauses) (A A' : Assumptions) (v : Monotype) → IsMoreOn (λ x. ClausesMention x cs) A A' → DeriveClauses A cs v → DeriveClauses A' cs v
  DeriveClauses-more no_clause A A' v m d = d
  DeriveClauses-more (clause ps gs ds cs) A A' v m d =
      let c = d.0 in
      let l = c.body in
      let inner : IsMoreOn (λ x. ¬ (IsOneOf x (names ds)) × (RightSidesMention x gs ⊎ BindingsMention x ds)) (bind_all (patterns_names ps) (λ x. monomorphic (c.variables x)) A) (bind_all (patterns_names ps) (λ x. monomorphic (c.variables x)) A') =
      more-bind_all _ (λ x. ClausesMention x (clause ps gs ds cs)) (patterns_names ps) (λ x. monomorphic (c.variables x)) A A' (λ x i o. inl (o, i)) m in (
        record {
          variables = c.variables;
          parameters = c.parameters;
          result = c.result;
          function = c.function;
          matched = c.matched;
          body = record {
            schemes = l.schemes;
            listed = record { own = l.listed.own; units = l.listed.units; bindings = DeriveBindings-more ds _ _ l.listed.own (names ds) l.schemes (λ x p. inner x (p.1, inr p.0)) l.listed.bindings };
            body = DeriveRightSides-more gs _ _ c.result (more-bind_all _ (λ x. ¬ (IsOneOf x (names ds)) × (RightSidesMention x gs ⊎ BindingsMention x ds)) (names ds) l.schemes _ _ (λ x i o. (o, inl i)) inner) l.body;
          };
        },
        DeriveClauses-more cs A A' v (λ x i. m x (inr i)) d.1,
      )

  pub DeriveRightSides-more : (gs : RightSides) (A A' : Assumptions) (u : Monotype) → IsMoreOn (λ x. RightSidesMention x gs) A A' → DeriveRightSides A gs u → DeriveRightSides A' gs u
  DeriveRightSides-more no_right_side A A' u m d = d
  DeriveRightSides-more (plain e gs) A A' u m d = (Derives-more e A A' _ (λ x i. m x (inl i)) d.0, DeriveRightSides-more gs A A' u (λ x i. m x (inr i)) d.1)
  DeriveRightSides-more (guarded g e gs) A A' u m d = (Derives-more g A A' _ (λ x i. m x (inl i)) d.0, (Derives-more e A A' _ (λ x i. m x (inr (inl i))) d.1.0, DeriveRightSides-more gs A A' u (λ x i. m x (inr (inr i))) d.1.1))

  pub DeriveBindings-more : (ds : Bindings) (A A' : Assumptions) (own : Identifier → Identifier → Bool) (xs : List Identifier) (B : Identifier → Scheme) → IsMoreOn (λ x. BindingsMention x ds × ¬ (IsOneOf x xs)) A A' → DeriveBindings A own xs B ds → DeriveBindings A' own xs B ds
  DeriveBindings-more no_binding A A' own xs B m d = d
  DeriveBindings-more (unsigned x cs ds) A A' own xs B m d = (
    (λ us. DeriveClauses-more cs _ _ _ (more-bind_all (λ y. ClausesMention y cs) (λ y. BindingsMention y (unsigned x cs ds) × ¬ (IsOneOf y xs)) xs (seen_at own B us x) A A' (λ y i o. (inl i, o)) m) (d.0 us)),
    DeriveBindings-more ds A A' own xs B (λ y p. m y (inr p.0, p.1)) d.1,
  )
  DeriveBindings-more (signed x s cs ds) A A' own xs B m d = (
    (d.0.0, λ us. DeriveClauses-more cs _ _ _ (more-bind_all (λ y. ClausesMention y cs) (λ y. BindingsMention y (signed x s cs ds) × ¬ (IsOneOf y xs)) xs (seen_at own B us x) A A' (λ y i o. (inl i, o)) m) (d.0.1 us)),
    DeriveBindings-more ds A A' own xs B (λ y p. m y (inr p.0, p.1)) d.1,
  )
  DeriveBindings-more (matched k p cs ds) A A' own xs B m d = (
    (λ us. ((d.0 us).0, DeriveClauses-more cs _ _ _ (more-bind_all (λ y. ClausesMention y cs) (λ y. BindingsMention y (matched k p cs ds) × ¬ (IsOneOf y xs)) xs (seen_at own B us k) A A' (λ y i o. (inl i, o)) m) (d.0 us).1)),
    DeriveBindings-more ds A A' own xs B (λ y q. m y (inr q.0, q.1)) d.1,
  )
