-- Where a rule about type constructors holds in a tree, it holds for one of the type constructors in it.
use Rattle.std.proofs.Common.{List, [], ◌∷◌, ◌++◌, ◌⊎◌, inl, inr, ⊎_elim, subst, Contains}
use Rattle.std.proofs.lemmas.List.Elements.{Contains-append_left, Contains-append_right, Contains-append_cases}
use Rattle.hm_syntax.specs.Names.{Identifier}
use Rattle.hm_syntax.specs.Trees.{TypeTree, variable_type, constructor_type, function_type, tuple_type, list_type, unit_type, TypeTrees, no_types, more_types, DataConstructor, data_constructor, DataConstructors, no_constructors, more_constructors, Pattern, variable_pattern, bound_pattern, constructor_pattern, literal_pattern, wildcard_pattern, tuple_pattern, list_pattern, lazy_pattern, Patterns, no_patterns, more_patterns, Expression, variable_expression, constructor_expression, literal_expression, application, lambda, let_expression, if_expression, case_expression, tuple_expression, list_expression, typed_expression, Expressions, no_expressions, more_expressions, Declaration, data_declaration, newtype_declaration, synonym_declaration, signature, clause, pattern_binding, Declarations, no_declarations, more_declarations, RightSide, right_side, Bodies, no_bodies, plain_body, guarded_body, alternative, Alternatives, no_alternatives, more_alternatives}
use Rattle.hm_names.specs.Variables.{constructors_in, constructors_in_all}
use Rattle.hm_names.specs.Walk.{Locals, Node, at_expression, at_pattern, at_type, at_head, at_parameters, at_list, InType, InTypes, InConstructor, InConstructors, InPattern, InPatterns, InHead, InExpression, InExpressions, InAlternatives, InRightSide, InBodies, InDeclarations, InDeclaration, with_patterns, with_list}
use Rattle.hm_names.proofs.Members.{none_in, cases, first, rest}
use Rattle.hm_scope.specs.UsedTypes.{constructor_types, constructors_types, expression_types, expressions_types, alternatives_types, right_side_types, bodies_types, declarations_types, declaration_types}

module _ (P : Identifier → Type 0) where
  abbrev OfType : TypeTree → Type 0
  OfType (variable_type n) = ⊥
  OfType (constructor_type n ts) = P n
  OfType (function_type a b) = ⊥
  OfType (tuple_type ts) = ⊥
  OfType (list_type t) = ⊥
  OfType unit_type = ⊥

  -- the rule holds at the type constructors with the property
  abbrev pub AtTypes : Locals → Node → Type 0
  AtTypes xs (at_expression e) = ⊥
  AtTypes xs (at_pattern p) = ⊥
  AtTypes xs (at_type t) = OfType t
  AtTypes xs (at_head ps) = ⊥
  AtTypes xs (at_parameters ps ns) = ⊥
  AtTypes xs (at_list ds) = ⊥

  abbrev One : List Identifier → Type 0
  One ns = (n : Identifier) × (Contains ns n × P n)

  left : (ns ms : List Identifier) → One ns → One (ns ++ ms)
  left ns ms h = (h.0, (Contains-append_left ns ms h.0 h.1.0, h.1.1))

  right : (ns ms : List Identifier) → One ms → One (ns ++ ms)
  right ns ms h = (h.0, (Contains-append_right ns ms h.0 h.1.0, h.1.1))

  mutual
    pub in_type : (xs : Locals) (t : TypeTree) (n : Identifier) → Contains (constructors_in t) n → P n → InType AtTypes xs t
    in_type xs (variable_type k) n c p = absurd (none_in n c)
    in_type xs (constructor_type k ts) n c p = elim (cases k (constructors_in_all ts) n c) [ inl e ↦ inl (subst P e p) | inr o ↦ inr (in_types xs ts n o p) ]
    in_type xs (function_type t u) n c p = elim (Contains-append_cases (constructors_in t) (constructors_in u) n c) [ inl o ↦ inl (in_type xs t n o p) | inr o ↦ inr (in_type xs u n o p) ]
    in_type xs (tuple_type ts) n c p = in_types xs ts n c p
    in_type xs (list_type t) n c p = in_type xs t n c p
    in_type xs unit_type n c p = absurd (none_in n c)

    in_types : (xs : Locals) (ts : TypeTrees) (n : Identifier) → Contains (constructors_in_all ts) n → P n → InTypes AtTypes xs ts
    in_types xs no_types n c p = absurd (none_in n c)
    in_types xs (more_types t ts) n c p = elim (Contains-append_cases (constructors_in t) (constructors_in_all ts) n c) [ inl o ↦ inl (in_type xs t n o p) | inr o ↦ inr (in_types xs ts n o p) ]

  mutual
    of_type : (xs : Locals) (t : TypeTree) → InType AtTypes xs t → One (constructors_in t)
    of_type xs (variable_type n) h = absurd h
    of_type xs (constructor_type n ts) h = ⊎_elim (λ p. (n, (first n (constructors_in_all ts), p))) (λ h. let q = of_types xs ts h in (q.0, (rest n (constructors_in_all ts) q.0 q.1.0, q.1.1))) h
    of_type xs (function_type a b) h = ⊎_elim (λ h. left (constructors_in a) (constructors_in b) (of_type xs a h)) (λ h. right (constructors_in a) (constructors_in b) (of_type xs b h)) h
    of_type xs (tuple_type ts) h = of_types xs ts h
    of_type xs (list_type t) h = of_type xs t h
    of_type xs unit_type h = absurd h

    of_types : (xs : Locals) (ts : TypeTrees) → InTypes AtTypes xs ts → One (constructors_in_all ts)
    of_types xs no_types h = absurd h
    of_types xs (more_types t ts) h = ⊎_elim (λ h. left (constructors_in t) (constructors_in_all ts) (of_type xs t h)) (λ h. right (constructors_in t) (constructors_in_all ts) (of_types xs ts h)) h

  of_constructor : (xs : Locals) (k : DataConstructor) → InConstructor AtTypes xs k → One (constructor_types k)
  of_constructor xs (data_constructor n ts) h = of_types xs ts h

  of_constructors : (xs : Locals) (ks : DataConstructors) → InConstructors AtTypes xs ks → One (constructors_types ks)
  of_constructors xs no_constructors h = absurd h
  of_constructors xs (more_constructors k ks) h = ⊎_elim (λ h. left (constructor_types k) (constructors_types ks) (of_constructor xs k h)) (λ h. right (constructor_types k) (constructors_types ks) (of_constructors xs ks h)) h

  mutual
    no_pattern : (xs : Locals) (p : Pattern) → ¬ (InPattern AtTypes xs p)
    no_pattern xs (variable_pattern n) h = absurd h
    no_pattern xs (bound_pattern n p) h = no_pattern xs p h
    no_pattern xs (constructor_pattern n ps) h = ⊎_elim (λ h. absurd h) (λ h. absurd (none_of_patterns xs ps h)) h
    no_pattern xs (literal_pattern l) h = absurd h
    no_pattern xs wildcard_pattern h = absurd h
    no_pattern xs (tuple_pattern ps) h = none_of_patterns xs ps h
    no_pattern xs (list_pattern ps) h = none_of_patterns xs ps h
    no_pattern xs (lazy_pattern p) h = no_pattern xs p h

    none_of_patterns : (xs : Locals) (ps : Patterns) → ¬ (InPatterns AtTypes xs ps)
    none_of_patterns xs no_patterns h = absurd h
    none_of_patterns xs (more_patterns p ps) h = ⊎_elim (λ h. absurd (no_pattern xs p h)) (λ h. absurd (none_of_patterns xs ps h)) h

  no_head : (xs : Locals) (ps : Patterns) → ¬ (InHead AtTypes xs ps)
  no_head xs ps h = ⊎_elim (λ h. absurd h) (λ h. absurd (none_of_patterns xs ps h)) h

  mutual
    of_expression : (xs : Locals) (e : Expression) → InExpression AtTypes xs e → One (expression_types e)
    of_expression xs (variable_expression n) h = absurd h
    of_expression xs (constructor_expression n) h = absurd h
    of_expression xs (literal_expression l) h = absurd h
    of_expression xs (application f e) h = ⊎_elim (λ h. left (expression_types f) (expression_types e) (of_expression xs f h)) (λ h. right (expression_types f) (expression_types e) (of_expression xs e h)) h
    of_expression xs (lambda ps e) h = ⊎_elim (λ h. absurd (no_head xs ps h)) (λ h. of_expression (with_patterns ps xs) e h) h
    of_expression xs (let_expression ds e) h = ⊎_elim (λ h. ⊎_elim (λ h. absurd h) (λ h. left (declarations_types ds) (expression_types e) (of_declarations (with_list ds xs) ds h)) h) (λ h. right (declarations_types ds) (expression_types e) (of_expression (with_list ds xs) e h)) h
    of_expression xs (if_expression a b c) h = ⊎_elim
        (λ h. left (expression_types a) (expression_types b ++ expression_types c) (of_expression xs a h))
        (λ h. right (expression_types a) (expression_types b ++ expression_types c) (⊎_elim (λ h. left (expression_types b) (expression_types c) (of_expression xs b h)) (λ h. right (expression_types b) (expression_types c) (of_expression xs c h)) h)) h
    of_expression xs (case_expression e bs) h = ⊎_elim (λ h. left (expression_types e) (alternatives_types bs) (of_expression xs e h)) (λ h. right (expression_types e) (alternatives_types bs) (of_alternatives xs bs h)) h
    of_expression xs (tuple_expression es) h = of_expressions xs es h
    of_expression xs (list_expression es) h = of_expressions xs es h
    of_expression xs (typed_expression e t) h = ⊎_elim (λ h. left (expression_types e) (constructors_in t) (of_expression xs e h)) (λ h. right (expression_types e) (constructors_in t) (of_type xs t h)) h

    of_expressions : (xs : Locals) (es : Expressions) → InExpressions AtTypes xs es → One (expressions_types es)
    of_expressions xs no_expressions h = absurd h
    of_expressions xs (more_expressions e es) h = ⊎_elim (λ h. left (expression_types e) (expressions_types es) (of_expression xs e h)) (λ h. right (expression_types e) (expressions_types es) (of_expressions xs es h)) h

    of_alternatives : (xs : Locals) (bs : Alternatives) → InAlternatives AtTypes xs bs → One (alternatives_types bs)
    of_alternatives xs no_alternatives h = absurd h
    of_alternatives xs (more_alternatives (alternative p r) bs) h = ⊎_elim (λ h. absurd (no_head xs (more_patterns p no_patterns) h))
        (λ h. ⊎_elim (λ h. left (right_side_types r) (alternatives_types bs) (of_right_side (with_patterns (more_patterns p no_patterns) xs) r h)) (λ h. right (right_side_types r) (alternatives_types bs) (of_alternatives xs bs h)) h) h

    of_right_side : (xs : Locals) (r : RightSide) → InRightSide AtTypes xs r → One (right_side_types r)
    of_right_side xs (right_side gs ds) h = ⊎_elim (λ h. left (bodies_types gs) (declarations_types ds) (of_bodies (with_list ds xs) gs h))
        (λ h. ⊎_elim (λ h. absurd h) (λ h. right (bodies_types gs) (declarations_types ds) (of_declarations (with_list ds xs) ds h)) h) h

    of_bodies : (xs : Locals) (gs : Bodies) → InBodies AtTypes xs gs → One (bodies_types gs)
    of_bodies xs no_bodies h = absurd h
    of_bodies xs (plain_body e gs) h = ⊎_elim (λ h. left (expression_types e) (bodies_types gs) (of_expression xs e h)) (λ h. right (expression_types e) (bodies_types gs) (of_bodies xs gs h)) h
    of_bodies xs (guarded_body g e gs) h = ⊎_elim
        (λ h. left (expression_types g) (expression_types e ++ bodies_types gs) (of_expression xs g h))
        (λ h. right (expression_types g) (expression_types e ++ bodies_types gs) (⊎_elim (λ h. left (expression_types e) (bodies_types gs) (of_expression xs e h)) (λ h. right (expression_types e) (bodies_types gs) (of_bodies xs gs h)) h)) h

    of_declarations : (xs : Locals) (ds : Declarations) → InDeclarations AtTypes xs ds → One (declarations_types ds)
    of_declarations xs no_declarations h = absurd h
    of_declarations xs (more_declarations d ds) h = ⊎_elim (λ h. left (declaration_types d) (declarations_types ds) (of_declaration xs d h)) (λ h. right (declaration_types d) (declarations_types ds) (of_declarations xs ds h)) h

    pub of_declaration : (xs : Locals) (d : Declaration) → InDeclaration AtTypes xs d → One (declaration_types d)
    of_declaration xs (data_declaration n ps cs) h = ⊎_elim (λ h. absurd h) (λ h. of_constructors xs cs h) h
    of_declaration xs (newtype_declaration n ps c) h = ⊎_elim (λ h. absurd h) (λ h. of_constructor xs c h) h
    of_declaration xs (synonym_declaration n ps t) h = ⊎_elim (λ h. absurd h) (λ h. of_type xs t h) h
    of_declaration xs (signature ns t) h = of_type xs t h
    of_declaration xs (clause n ps r) h = ⊎_elim (λ h. absurd (no_head xs ps h)) (λ h. of_right_side (with_patterns ps xs) r h) h
    of_declaration xs (pattern_binding line column p r) h = ⊎_elim (λ h. absurd (no_head xs (more_patterns p no_patterns) h)) (λ h. of_right_side xs r h) h
