-- What holds somewhere in a module still does where the rule follows from another.
use Rattle.std.proofs.Common.{[], inl, inr, ◌⊎◌}
use Rattle.hm_syntax.specs.Trees.{TypeTree, variable_type, constructor_type, function_type, tuple_type, list_type, unit_type, TypeTrees, no_types, more_types, DataConstructor, data_constructor, DataConstructors, no_constructors, more_constructors, Pattern, variable_pattern, bound_pattern, constructor_pattern, literal_pattern, wildcard_pattern, tuple_pattern, list_pattern, lazy_pattern, Patterns, no_patterns, more_patterns, Expression, variable_expression, constructor_expression, literal_expression, application, lambda, let_expression, if_expression, case_expression, tuple_expression, list_expression, typed_expression, Expressions, no_expressions, more_expressions, Declaration, data_declaration, newtype_declaration, synonym_declaration, signature, clause, pattern_binding, Declarations, no_declarations, more_declarations, RightSide, right_side, Bodies, no_bodies, plain_body, guarded_body, alternative, Alternatives, no_alternatives, more_alternatives}
use Rattle.hm_syntax.specs.Lists.{declarations}
use Rattle.hm_syntax.specs.declared.ast.Module.{Module}
use Rattle.hm_names.specs.Variables.{type_variables, constructor_variables, constructors_variables}
use Rattle.hm_names.specs.Walk.{Locals, with_patterns, with_list, Node, at_expression, at_pattern, at_type, at_head, at_parameters, at_list, InType, InTypes, InConstructor, InConstructors, InPattern, InPatterns, InHead, InExpression, InExpressions, InAlternatives, InRightSide, InBodies, InDeclarations, InDeclaration, Somewhere}

either : {P P' R R' : Type 0} → (P → P') → (R → R') → P ⊎ R → P' ⊎ R'
either f g (inl p) = inl (f p)
either f g (inr r) = inr (g r)

module _ (Q Q' : Locals → Node → Type 0) (follows : (xs : Locals) (t : Node) → Q xs t → Q' xs t) where
  mutual
    in_type : (xs : Locals) (t : TypeTree) → InType Q xs t → InType Q' xs t
    in_type xs (variable_type n) h = follows xs (at_type (variable_type n)) h
    in_type xs (constructor_type n ts) h = either (λ k. follows xs (at_type (constructor_type n ts)) k) (λ k. in_types xs ts k) h
    in_type xs (function_type a b) h = either (λ k. in_type xs a k) (λ k. in_type xs b k) h
    in_type xs (tuple_type ts) h = in_types xs ts h
    in_type xs (list_type t) h = in_type xs t h
    in_type xs unit_type h = h

    in_types : (xs : Locals) (ts : TypeTrees) → InTypes Q xs ts → InTypes Q' xs ts
    in_types xs no_types h = h
    in_types xs (more_types t ts) h = either (λ k. in_type xs t k) (λ k. in_types xs ts k) h

  in_constructor : (xs : Locals) (c : DataConstructor) → InConstructor Q xs c → InConstructor Q' xs c
  in_constructor xs (data_constructor n ts) h = in_types xs ts h

  in_constructors : (xs : Locals) (cs : DataConstructors) → InConstructors Q xs cs → InConstructors Q' xs cs
  in_constructors xs no_constructors h = h
  in_constructors xs (more_constructors c cs) h = either (λ k. in_constructor xs c k) (λ k. in_constructors xs cs k) h

  mutual
    in_pattern : (xs : Locals) (p : Pattern) → InPattern Q xs p → InPattern Q' xs p
    in_pattern xs (variable_pattern n) h = h
    in_pattern xs (bound_pattern n p) h = in_pattern xs p h
    in_pattern xs (constructor_pattern n ps) h = either (λ k. follows xs (at_pattern (constructor_pattern n ps)) k) (λ k. in_patterns xs ps k) h
    in_pattern xs (literal_pattern l) h = h
    in_pattern xs wildcard_pattern h = h
    in_pattern xs (tuple_pattern ps) h = in_patterns xs ps h
    in_pattern xs (list_pattern ps) h = in_patterns xs ps h
    in_pattern xs (lazy_pattern p) h = in_pattern xs p h

    in_patterns : (xs : Locals) (ps : Patterns) → InPatterns Q xs ps → InPatterns Q' xs ps
    in_patterns xs no_patterns h = h
    in_patterns xs (more_patterns p ps) h = either (λ k. in_pattern xs p k) (λ k. in_patterns xs ps k) h

  in_head : (xs : Locals) (ps : Patterns) → InHead Q xs ps → InHead Q' xs ps
  in_head xs ps h = either (λ k. follows xs (at_head ps) k) (λ k. in_patterns xs ps k) h

  mutual
    in_expression : (xs : Locals) (e : Expression) → InExpression Q xs e → InExpression Q' xs e
    in_expression xs (variable_expression n) h = follows xs (at_expression (variable_expression n)) h
    in_expression xs (constructor_expression n) h = follows xs (at_expression (constructor_expression n)) h
    in_expression xs (literal_expression l) h = h
    in_expression xs (application f e) h = either (λ k. in_expression xs f k) (λ k. in_expression xs e k) h
    in_expression xs (lambda ps e) h = either (λ k. in_head xs ps k) (λ k. in_expression (with_patterns ps xs) e k) h
    in_expression xs (let_expression ds e) h = either (λ k. either (λ l. follows (with_list ds xs) (at_list ds) l) (λ l. in_declarations (with_list ds xs) ds l) k) (λ k. in_expression (with_list ds xs) e k) h
    in_expression xs (if_expression a b c) h = either (λ k. in_expression xs a k) (λ k. either (λ l. in_expression xs b l) (λ l. in_expression xs c l) k) h
    in_expression xs (case_expression e bs) h = either (λ k. in_expression xs e k) (λ k. in_alternatives xs bs k) h
    in_expression xs (tuple_expression es) h = in_expressions xs es h
    in_expression xs (list_expression es) h = in_expressions xs es h
    in_expression xs (typed_expression e t) h = either (λ k. in_expression xs e k) (λ k. in_type xs t k) h

    in_expressions : (xs : Locals) (es : Expressions) → InExpressions Q xs es → InExpressions Q' xs es
    in_expressions xs no_expressions h = h
    in_expressions xs (more_expressions e es) h = either (λ k. in_expression xs e k) (λ k. in_expressions xs es k) h

    in_alternatives : (xs : Locals) (bs : Alternatives) → InAlternatives Q xs bs → InAlternatives Q' xs bs
    in_alternatives xs no_alternatives h = h
    in_alternatives xs (more_alternatives (alternative p r) bs) h =
        either (λ k. in_head xs (more_patterns p no_patterns) k) (λ k. either (λ l. in_right_side (with_patterns (more_patterns p no_patterns) xs) r l) (λ l. in_alternatives xs bs l) k) h

    in_right_side : (xs : Locals) (r : RightSide) → InRightSide Q xs r → InRightSide Q' xs r
    in_right_side xs (right_side gs ds) h = either (λ k. in_bodies (with_list ds xs) gs k) (λ k. either (λ l. follows (with_list ds xs) (at_list ds) l) (λ l. in_declarations (with_list ds xs) ds l) k) h

    in_bodies : (xs : Locals) (gs : Bodies) → InBodies Q xs gs → InBodies Q' xs gs
    in_bodies xs no_bodies h = h
    in_bodies xs (plain_body e gs) h = either (λ k. in_expression xs e k) (λ k. in_bodies xs gs k) h
    in_bodies xs (guarded_body g e gs) h = either (λ k. in_expression xs g k) (λ k. either (λ l. in_expression xs e l) (λ l. in_bodies xs gs l) k) h

    in_declarations : (xs : Locals) (ds : Declarations) → InDeclarations Q xs ds → InDeclarations Q' xs ds
    in_declarations xs no_declarations h = h
    in_declarations xs (more_declarations d ds) h = either (λ k. in_declaration xs d k) (λ k. in_declarations xs ds k) h

    in_declaration : (xs : Locals) (d : Declaration) → InDeclaration Q xs d → InDeclaration Q' xs d
    in_declaration xs (data_declaration n ps cs) h = either (λ k. follows xs (at_parameters ps (constructors_variables cs)) k) (λ k. in_constructors xs cs k) h
    in_declaration xs (newtype_declaration n ps c) h = either (λ k. follows xs (at_parameters ps (constructor_variables c)) k) (λ k. in_constructor xs c k) h
    in_declaration xs (synonym_declaration n ps t) h = either (λ k. follows xs (at_parameters ps (type_variables t)) k) (λ k. in_type xs t k) h
    in_declaration xs (signature ns t) h = in_type xs t h
    in_declaration xs (clause n ps r) h = either (λ k. in_head xs ps k) (λ k. in_right_side (with_patterns ps xs) r k) h
    in_declaration xs (pattern_binding line column p r) h = either (λ k. in_head xs (more_patterns p no_patterns) k) (λ k. in_right_side xs r k) h

  pub somewhere : (m : Module) → Somewhere m Q → Somewhere m Q'
  somewhere m h = either (λ k. follows [] (at_list (declarations m.decls)) k) (λ k. in_declarations [] (declarations m.decls) k) h
