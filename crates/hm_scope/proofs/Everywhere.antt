-- Where something stands with a property, it stands with each property that follows from it.
use Rattle.std.proofs.Common.{⊎_elim, inl, inr, List, []}
use Rattle.hm_syntax.specs.Lists.{declarations}
use Rattle.hm_syntax.specs.Trees.{TypeTree, variable_type, constructor_type, function_type, tuple_type, list_type, unit_type, TypeTrees, no_types, more_types, DataConstructor, data_constructor, DataConstructors, no_constructors, more_constructors, Pattern, variable_pattern, bound_pattern, constructor_pattern, literal_pattern, wildcard_pattern, tuple_pattern, list_pattern, lazy_pattern, Patterns, no_patterns, more_patterns, Expression, variable_expression, constructor_expression, literal_expression, application, lambda, let_expression, if_expression, case_expression, tuple_expression, list_expression, typed_expression, Expressions, no_expressions, more_expressions, Declaration, data_declaration, newtype_declaration, synonym_declaration, signature, clause, pattern_binding, Declarations, no_declarations, more_declarations, RightSide, right_side, Bodies, no_bodies, plain_body, guarded_body, alternative, Alternatives, no_alternatives, more_alternatives}
use Rattle.hm_names.specs.Walk.{Locals, Node, InType, InTypes, InConstructor, InConstructors, InPattern, InPatterns, InHead, InExpression, InExpressions, InAlternatives, InRightSide, InBodies, InDeclarations, InDeclaration, InTop, with_patterns, with_list}

module _ (Q R : Locals → Node → Type 0) (follows : (xs : Locals) (t : Node) → Q xs t → R xs t) where
  mutual
    pub each_type : (xs : Locals) (t : TypeTree) → InType Q xs t → InType R xs t
    each_type xs (variable_type n) h = follows _ _ h
    each_type xs (constructor_type n ts) h = ⊎_elim (λ h. inl (follows _ _ h)) (λ h. (inr (each_types xs ts h))) h
    each_type xs (function_type a b) h = ⊎_elim (λ h. (inl (each_type xs a h))) (λ h. (inr (each_type xs b h))) h
    each_type xs (tuple_type ts) h = each_types xs ts h
    each_type xs (list_type t) h = each_type xs t h
    each_type xs unit_type h = absurd h

    pub each_types : (xs : Locals) (t : TypeTrees) → InTypes Q xs t → InTypes R xs t
    each_types xs no_types h = absurd h
    each_types xs (more_types t ts) h = ⊎_elim (λ h. (inl (each_type xs t h))) (λ h. (inr (each_types xs ts h))) h

  pub each_constructor : (xs : Locals) (t : DataConstructor) → InConstructor Q xs t → InConstructor R xs t
  each_constructor xs (data_constructor n ts) h = each_types xs ts h

  pub each_constructors : (xs : Locals) (t : DataConstructors) → InConstructors Q xs t → InConstructors R xs t
  each_constructors xs no_constructors h = absurd h
  each_constructors xs (more_constructors c cs) h = ⊎_elim (λ h. (inl (each_constructor xs c h))) (λ h. (inr (each_constructors xs cs h))) h

  mutual
    pub each_pattern : (xs : Locals) (t : Pattern) → InPattern Q xs t → InPattern R xs t
    each_pattern xs (variable_pattern n) h = absurd h
    each_pattern xs (bound_pattern n p) h = each_pattern xs p h
    each_pattern xs (constructor_pattern n ps) h = ⊎_elim (λ h. inl (follows _ _ h)) (λ h. (inr (each_patterns xs ps h))) h
    each_pattern xs (literal_pattern l) h = absurd h
    each_pattern xs wildcard_pattern h = absurd h
    each_pattern xs (tuple_pattern ps) h = each_patterns xs ps h
    each_pattern xs (list_pattern ps) h = each_patterns xs ps h
    each_pattern xs (lazy_pattern p) h = each_pattern xs p h

    pub each_patterns : (xs : Locals) (t : Patterns) → InPatterns Q xs t → InPatterns R xs t
    each_patterns xs no_patterns h = absurd h
    each_patterns xs (more_patterns p ps) h = ⊎_elim (λ h. (inl (each_pattern xs p h))) (λ h. (inr (each_patterns xs ps h))) h

  pub each_head : (xs : Locals) (t : Patterns) → InHead Q xs t → InHead R xs t
  each_head xs ps h = ⊎_elim (λ h. inl (follows _ _ h)) (λ h. (inr (each_patterns xs ps h))) h

  mutual
    pub each_expression : (xs : Locals) (t : Expression) → InExpression Q xs t → InExpression R xs t
    each_expression xs (variable_expression n) h = follows _ _ h
    each_expression xs (constructor_expression n) h = follows _ _ h
    each_expression xs (literal_expression l) h = absurd h
    each_expression xs (application f e) h = ⊎_elim (λ h. (inl (each_expression xs f h))) (λ h. (inr (each_expression xs e h))) h
    each_expression xs (lambda ps e) h = ⊎_elim (λ h. (inl (each_head xs ps h))) (λ h. (inr (each_expression (with_patterns ps xs) e h))) h
    each_expression xs (let_expression ds e) h = ⊎_elim (λ h. ⊎_elim (λ h. inl (inl (follows _ _ h))) (λ h. (inl (inr (each_declarations (with_list ds xs) ds h)))) h) (λ h. (inr (each_expression (with_list ds xs) e h))) h
    each_expression xs (if_expression a b c) h = ⊎_elim (λ h. (inl (each_expression xs a h))) (λ h. ⊎_elim (λ h. (inr (inl (each_expression xs b h)))) (λ h. (inr (inr (each_expression xs c h)))) h) h
    each_expression xs (case_expression e bs) h = ⊎_elim (λ h. (inl (each_expression xs e h))) (λ h. (inr (each_alternatives xs bs h))) h
    each_expression xs (tuple_expression es) h = each_expressions xs es h
    each_expression xs (list_expression es) h = each_expressions xs es h
    each_expression xs (typed_expression e t) h = ⊎_elim (λ h. (inl (each_expression xs e h))) (λ h. (inr (each_type xs t h))) h

    pub each_expressions : (xs : Locals) (t : Expressions) → InExpressions Q xs t → InExpressions R xs t
    each_expressions xs no_expressions h = absurd h
    each_expressions xs (more_expressions e es) h = ⊎_elim (λ h. (inl (each_expression xs e h))) (λ h. (inr (each_expressions xs es h))) h

    pub each_alternatives : (xs : Locals) (t : Alternatives) → InAlternatives Q xs t → InAlternatives R xs t
    each_alternatives xs no_alternatives h = absurd h
    each_alternatives xs (more_alternatives (alternative p r) bs) h = ⊎_elim (λ h. (inl (each_head xs (more_patterns p no_patterns) h))) (λ h. ⊎_elim (λ h. (inr (inl (each_right_side (with_patterns (more_patterns p no_patterns) xs) r h)))) (λ h. (inr (inr (each_alternatives xs bs h)))) h) h

    pub each_right_side : (xs : Locals) (t : RightSide) → InRightSide Q xs t → InRightSide R xs t
    each_right_side xs (right_side gs ds) h = ⊎_elim (λ h. (inl (each_bodies (with_list ds xs) gs h))) (λ h. ⊎_elim (λ h. inr (inl (follows _ _ h))) (λ h. (inr (inr (each_declarations (with_list ds xs) ds h)))) h) h

    pub each_bodies : (xs : Locals) (t : Bodies) → InBodies Q xs t → InBodies R xs t
    each_bodies xs no_bodies h = absurd h
    each_bodies xs (plain_body e gs) h = ⊎_elim (λ h. (inl (each_expression xs e h))) (λ h. (inr (each_bodies xs gs h))) h
    each_bodies xs (guarded_body g e gs) h = ⊎_elim (λ h. (inl (each_expression xs g h))) (λ h. ⊎_elim (λ h. (inr (inl (each_expression xs e h)))) (λ h. (inr (inr (each_bodies xs gs h)))) h) h

    pub each_declarations : (xs : Locals) (t : Declarations) → InDeclarations Q xs t → InDeclarations R xs t
    each_declarations xs no_declarations h = absurd h
    each_declarations xs (more_declarations d ds) h = ⊎_elim (λ h. (inl (each_declaration xs d h))) (λ h. (inr (each_declarations xs ds h))) h

    pub each_declaration : (xs : Locals) (t : Declaration) → InDeclaration Q xs t → InDeclaration R xs t
    each_declaration xs (data_declaration n ps cs) h = ⊎_elim (λ h. inl (follows _ _ h)) (λ h. (inr (each_constructors xs cs h))) h
    each_declaration xs (newtype_declaration n ps c) h = ⊎_elim (λ h. inl (follows _ _ h)) (λ h. (inr (each_constructor xs c h))) h
    each_declaration xs (synonym_declaration n ps t) h = ⊎_elim (λ h. inl (follows _ _ h)) (λ h. (inr (each_type xs t h))) h
    each_declaration xs (signature ns t) h = each_type xs t h
    each_declaration xs (clause n ps r) h = ⊎_elim (λ h. (inl (each_head xs ps h))) (λ h. (inr (each_right_side (with_patterns ps xs) r h))) h
    each_declaration xs (pattern_binding line column p g) h = ⊎_elim (λ h. (inl (each_head xs (more_patterns p no_patterns) h))) (λ h. (inr (each_right_side xs g h))) h

  pub each_top : (ds : List Declaration) → InTop Q ds → InTop R ds
  each_top ds h = ⊎_elim (λ h. inl (follows _ _ h)) (λ h. (inr (each_declarations [] (declarations ds) h))) h
