-- What the walk finds are the names that are written, in order.
use Rattle.std.proofs.Common.{◌≡◌, Bool, true, false, cond, List, [], ◌∷◌, ◌++◌, map, refl, ap, ap₂, ◌∙◌}
use Rattle.std.proofs.lemmas.List.{map-append}
use Rattle.hm_syntax.specs.Names.{Identifier}
use Rattle.hm_syntax.specs.Trees.{TypeTree, variable_type, constructor_type, function_type, tuple_type, list_type, unit_type, TypeTrees, no_types, more_types, DataConstructor, data_constructor, DataConstructors, no_constructors, more_constructors, Pattern, variable_pattern, bound_pattern, constructor_pattern, literal_pattern, wildcard_pattern, tuple_pattern, list_pattern, lazy_pattern, Patterns, no_patterns, more_patterns, Expression, variable_expression, constructor_expression, literal_expression, application, lambda, let_expression, if_expression, case_expression, tuple_expression, list_expression, typed_expression, Expressions, no_expressions, more_expressions, Declaration, data_declaration, newtype_declaration, synonym_declaration, signature, clause, pattern_binding, Declarations, no_declarations, more_declarations, RightSide, right_side, Bodies, no_bodies, plain_body, guarded_body, alternative, Alternatives, no_alternatives, more_alternatives}
use Rattle.hm_names.specs.declared.namespace.Namespace.TheVariants.{Types, Constructors}
use Rattle.hm_names.specs.Found.{is_special}
use Rattle.hm_names.specs.Variables.{pattern_variables, patterns_variables, type_variables, bound_names}
use Rattle.hm_uses.specs.declared.name_kind.NameKind.TheVariants.{Variable, Constructor, TypeVariable, TypeConstructor}
use Rattle.hm_uses.specs.Mentions.{Mention, mention, mentions, constructor_mention, type_mentions, types_mentions, declared_constructor_mentions, declared_constructors_mentions, pattern_mentions, patterns_mentions, expression_mentions, expressions_mentions, alternatives_mentions, right_side_mentions, bodies_mentions, declarations_mentions, declaration_mentions}
use Rattle.hm_uses.specs.Scopes.{Around, Home, local_to}
use Rattle.hm_uses.specs.Uses.{UseOf}
use Rattle.hm_uses.specs.Found.{Known, scope_sense, use_as, constructor_use, binder_use, signed_uses, parameter_uses, own_use, type_uses, types_uses, declared_constructor_uses, declared_constructors_uses, pattern_uses, patterns_uses, expression_uses, expressions_uses, alternatives_uses, right_side_uses, bodies_uses, declarations_uses, declaration_uses}

abbrev named_in : List UseOf → List Mention
named_in us = map (λ u. u.mention) us

both : (us vs : List UseOf) (ms ns : List Mention) → named_in us ≡ ms → named_in vs ≡ ns → named_in (us ++ vs) ≡ ms ++ ns
both us vs ms ns e f = map-append (λ (u : UseOf). u.mention) us vs ∙ ap₂ (λ (x y : List Mention). x ++ y) e f

constructor_named : (k : Known) (n : Identifier) → named_in (constructor_use k n) ≡ constructor_mention n
constructor_named k n = go (is_special n)
  where
    go : (b : Bool) → named_in (cond b [] (use_as Constructor false n (scope_sense k Constructors n))) ≡ cond b [] (mention Constructor false n)
    go true = refl
    go false = refl

signed_named : (k : Known) (h : Home) (ns : List Identifier) → named_in (signed_uses k h ns) ≡ mentions Variable false ns
signed_named k h [] = refl
signed_named k h (n ∷ ns) = ap (λ (l : List Mention). record { name = n; kind = Variable; binds = false } ∷ l) (signed_named k h ns)

parameters_named : (vs ns : List Identifier) → named_in (parameter_uses vs ns) ≡ mentions TypeVariable true ns
parameters_named vs [] = refl
parameters_named vs (n ∷ ns) = ap (λ (l : List Mention). record { name = n; kind = TypeVariable; binds = true } ∷ l) (parameters_named vs ns)

module _ (k : Known) where
  mutual
    type_named : (vs : List Identifier) (t : TypeTree) → named_in (type_uses k vs t) ≡ type_mentions t
    type_named vs (variable_type n) = refl
    type_named vs (constructor_type n ts) = both (use_as TypeConstructor false n (scope_sense k Types n)) (types_uses k vs ts) _ _ refl (types_named vs ts)
    type_named vs (function_type a b) = both (type_uses k vs a) (type_uses k vs b) _ _ (type_named vs a) (type_named vs b)
    type_named vs (tuple_type ts) = types_named vs ts
    type_named vs (list_type t) = type_named vs t
    type_named vs unit_type = refl

    types_named : (vs : List Identifier) (ts : TypeTrees) → named_in (types_uses k vs ts) ≡ types_mentions ts
    types_named vs no_types = refl
    types_named vs (more_types t ts) = both (type_uses k vs t) (types_uses k vs ts) _ _ (type_named vs t) (types_named vs ts)

  declared_named : (vs : List Identifier) (c : DataConstructor) → named_in (declared_constructor_uses k vs c) ≡ declared_constructor_mentions c
  declared_named vs (data_constructor n ts) = both (own_use k Constructor n) (types_uses k vs ts) _ _ refl (types_named vs ts)

  all_declared_named : (vs : List Identifier) (cs : DataConstructors) → named_in (declared_constructors_uses k vs cs) ≡ declared_constructors_mentions cs
  all_declared_named vs no_constructors = refl
  all_declared_named vs (more_constructors c cs) = both (declared_constructor_uses k vs c) (declared_constructors_uses k vs cs) _ _ (declared_named vs c) (all_declared_named vs cs)

  mutual
    pattern_named : (h : Home) (p : Pattern) → named_in (pattern_uses k h p) ≡ pattern_mentions p
    pattern_named h (variable_pattern n) = refl
    pattern_named h (bound_pattern n p) = both (binder_use k h true n) (pattern_uses k h p) _ _ refl (pattern_named h p)
    pattern_named h (constructor_pattern n ps) = both (constructor_use k n) (patterns_uses k h ps) _ _ (constructor_named k n) (patterns_named h ps)
    pattern_named h (literal_pattern l) = refl
    pattern_named h wildcard_pattern = refl
    pattern_named h (tuple_pattern ps) = patterns_named h ps
    pattern_named h (list_pattern ps) = patterns_named h ps
    pattern_named h (lazy_pattern p) = pattern_named h p

    patterns_named : (h : Home) (ps : Patterns) → named_in (patterns_uses k h ps) ≡ patterns_mentions ps
    patterns_named h no_patterns = refl
    patterns_named h (more_patterns p ps) = both (pattern_uses k h p) (patterns_uses k h ps) _ _ (pattern_named h p) (patterns_named h ps)

  mutual
    expression_named : (xs : Around) (e : Expression) → named_in (expression_uses k xs e) ≡ expression_mentions e
    expression_named xs (variable_expression n) = refl
    expression_named xs (constructor_expression n) = constructor_named k n
    expression_named xs (literal_expression l) = refl
    expression_named xs (application f e) = both (expression_uses k xs f) (expression_uses k xs e) _ _ (expression_named xs f) (expression_named xs e)
    expression_named xs (lambda ps e) = both (patterns_uses k (local_to (patterns_variables ps)) ps) (expression_uses k (patterns_variables ps ++ xs) e) _ _ (patterns_named (local_to (patterns_variables ps)) ps) (expression_named (patterns_variables ps ++ xs) e)
    expression_named xs (let_expression ds e) = both (declarations_uses k (bound_names ds ++ xs) (local_to (bound_names ds)) ds) (expression_uses k (bound_names ds ++ xs) e) _ _ (declarations_named (bound_names ds ++ xs) (local_to (bound_names ds)) ds) (expression_named (bound_names ds ++ xs) e)
    expression_named xs (if_expression a b c) = both (expression_uses k xs a) (expression_uses k xs b ++ expression_uses k xs c) _ _ (expression_named xs a) (both (expression_uses k xs b) (expression_uses k xs c) _ _ (expression_named xs b) (expression_named xs c))
    expression_named xs (case_expression e bs) = both (expression_uses k xs e) (alternatives_uses k xs bs) _ _ (expression_named xs e) (alternatives_named xs bs)
    expression_named xs (tuple_expression es) = expressions_named xs es
    expression_named xs (list_expression es) = expressions_named xs es
    expression_named xs (typed_expression e t) = both (expression_uses k xs e) (type_uses k (type_variables t) t) _ _ (expression_named xs e) (type_named (type_variables t) t)

    expressions_named : (xs : Around) (es : Expressions) → named_in (expressions_uses k xs es) ≡ expressions_mentions es
    expressions_named xs no_expressions = refl
    expressions_named xs (more_expressions e es) = both (expression_uses k xs e) (expressions_uses k xs es) _ _ (expression_named xs e) (expressions_named xs es)

    alternatives_named : (xs : Around) (bs : Alternatives) → named_in (alternatives_uses k xs bs) ≡ alternatives_mentions bs
    alternatives_named xs no_alternatives = refl
    alternatives_named xs (more_alternatives (alternative p r) bs) = both (pattern_uses k (local_to (pattern_variables p)) p ++ right_side_uses k (pattern_variables p ++ xs) r) (alternatives_uses k xs bs) _ _
        (both (pattern_uses k (local_to (pattern_variables p)) p) (right_side_uses k (pattern_variables p ++ xs) r) _ _ (pattern_named (local_to (pattern_variables p)) p) (right_side_named (pattern_variables p ++ xs) r)) (alternatives_named xs bs)

    right_side_named : (xs : Around) (r : RightSide) → named_in (right_side_uses k xs r) ≡ right_side_mentions r
    right_side_named xs (right_side gs ds) = both (bodies_uses k (bound_names ds ++ xs) gs) (declarations_uses k (bound_names ds ++ xs) (local_to (bound_names ds)) ds) _ _ (bodies_named (bound_names ds ++ xs) gs) (declarations_named (bound_names ds ++ xs) (local_to (bound_names ds)) ds)

    bodies_named : (xs : Around) (gs : Bodies) → named_in (bodies_uses k xs gs) ≡ bodies_mentions gs
    bodies_named xs no_bodies = refl
    bodies_named xs (plain_body e gs) = both (expression_uses k xs e) (bodies_uses k xs gs) _ _ (expression_named xs e) (bodies_named xs gs)
    bodies_named xs (guarded_body g e gs) = both (expression_uses k xs g ++ expression_uses k xs e) (bodies_uses k xs gs) _ _ (both (expression_uses k xs g) (expression_uses k xs e) _ _ (expression_named xs g) (expression_named xs e)) (bodies_named xs gs)

    pub declarations_named : (xs : Around) (h : Home) (ds : Declarations) → named_in (declarations_uses k xs h ds) ≡ declarations_mentions ds
    declarations_named xs h no_declarations = refl
    declarations_named xs h (more_declarations d ds) = both (declaration_uses k xs h d) (declarations_uses k xs h ds) _ _ (declaration_named xs h d) (declarations_named xs h ds)

    declaration_named : (xs : Around) (h : Home) (d : Declaration) → named_in (declaration_uses k xs h d) ≡ declaration_mentions d
    declaration_named xs h (data_declaration n ps cs) = both (own_use k TypeConstructor n) (parameter_uses ps ps ++ declared_constructors_uses k ps cs) _ _ refl (both (parameter_uses ps ps) (declared_constructors_uses k ps cs) _ _ (parameters_named ps ps) (all_declared_named ps cs))
    declaration_named xs h (newtype_declaration n ps c) = both (own_use k TypeConstructor n) (parameter_uses ps ps ++ declared_constructor_uses k ps c) _ _ refl (both (parameter_uses ps ps) (declared_constructor_uses k ps c) _ _ (parameters_named ps ps) (declared_named ps c))
    declaration_named xs h (synonym_declaration n ps t) = both (own_use k TypeConstructor n) (parameter_uses ps ps ++ type_uses k ps t) _ _ refl (both (parameter_uses ps ps) (type_uses k ps t) _ _ (parameters_named ps ps) (type_named ps t))
    declaration_named xs h (signature ns t) = both (signed_uses k h ns) (type_uses k (type_variables t) t) _ _ (signed_named k h ns) (type_named (type_variables t) t)
    declaration_named xs h (clause n ps r) = both (binder_use k h true n) (patterns_uses k (local_to (patterns_variables ps)) ps ++ right_side_uses k (patterns_variables ps ++ xs) r) _ _ refl
        (both (patterns_uses k (local_to (patterns_variables ps)) ps) (right_side_uses k (patterns_variables ps ++ xs) r) _ _ (patterns_named (local_to (patterns_variables ps)) ps) (right_side_named (patterns_variables ps ++ xs) r))
    declaration_named xs h (pattern_binding l c p r) = both (pattern_uses k h p) (right_side_uses k xs r) _ _ (pattern_named h p) (right_side_named xs r)
