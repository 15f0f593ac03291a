-- Where something stands with one of many properties, it stands with that property.
use Rattle.std.proofs.Common.{⊎_elim, inl, inr, List, []}
use Rattle.hm_syntax.specs.Lists.{declarations}
use Rattle.hm_syntax.specs.Trees.{TypeTree, variable_type, constructor_type, function_type, tuple_type, list_type, unit_type, TypeTrees, no_types, more_types, DataConstructor, data_constructor, DataConstructors, no_constructors, more_constructors, Pattern, variable_pattern, bound_pattern, constructor_pattern, literal_pattern, wildcard_pattern, tuple_pattern, list_pattern, lazy_pattern, Patterns, no_patterns, more_patterns, Expression, variable_expression, constructor_expression, literal_expression, application, lambda, let_expression, if_expression, case_expression, tuple_expression, list_expression, typed_expression, Expressions, no_expressions, more_expressions, Declaration, data_declaration, newtype_declaration, synonym_declaration, signature, clause, pattern_binding, Declarations, no_declarations, more_declarations, RightSide, right_side, Bodies, no_bodies, plain_body, guarded_body, alternative, Alternatives, no_alternatives, more_alternatives}
use Rattle.hm_names.specs.Walk.{Locals, Node, InType, InTypes, InConstructor, InConstructors, InPattern, InPatterns, InHead, InExpression, InExpressions, InAlternatives, InRightSide, InBodies, InDeclarations, InDeclaration, InTop, with_patterns, with_list}

module _ {F : Type 0} (Q : F → Locals → Node → Type 0) where
  abbrev Any : Locals → Node → Type 0
  Any xs t = (f : F) × Q f xs t

  mutual
    pub some_type : (xs : Locals) (t : TypeTree) → InType Any xs t → (f : F) × InType (Q f) xs t
    some_type xs (variable_type n) h = (h.0, h.1)
    some_type xs (constructor_type n ts) h = ⊎_elim (λ h. (h.0, inl (h.1))) (λ h. (let p = some_types xs ts h in (p.0, inr (p.1)))) h
    some_type xs (function_type a b) h = ⊎_elim (λ h. (let p = some_type xs a h in (p.0, inl (p.1)))) (λ h. (let p = some_type xs b h in (p.0, inr (p.1)))) h
    some_type xs (tuple_type ts) h = (let p = some_types xs ts h in (p.0, p.1))
    some_type xs (list_type t) h = (let p = some_type xs t h in (p.0, p.1))
    some_type xs unit_type h = absurd h

    pub some_types : (xs : Locals) (t : TypeTrees) → InTypes Any xs t → (f : F) × InTypes (Q f) xs t
    some_types xs no_types h = absurd h
    some_types xs (more_types t ts) h = ⊎_elim (λ h. (let p = some_type xs t h in (p.0, inl (p.1)))) (λ h. (let p = some_types xs ts h in (p.0, inr (p.1)))) h

  pub some_constructor : (xs : Locals) (t : DataConstructor) → InConstructor Any xs t → (f : F) × InConstructor (Q f) xs t
  some_constructor xs (data_constructor n ts) h = some_types xs ts h

  pub some_constructors : (xs : Locals) (t : DataConstructors) → InConstructors Any xs t → (f : F) × InConstructors (Q f) xs t
  some_constructors xs no_constructors h = absurd h
  some_constructors xs (more_constructors c cs) h = ⊎_elim (λ h. (let p = some_constructor xs c h in (p.0, inl (p.1)))) (λ h. (let p = some_constructors xs cs h in (p.0, inr (p.1)))) h

  mutual
    pub some_pattern : (xs : Locals) (t : Pattern) → InPattern Any xs t → (f : F) × InPattern (Q f) xs t
    some_pattern xs (variable_pattern n) h = absurd h
    some_pattern xs (bound_pattern n p) h = (let p = some_pattern xs p h in (p.0, p.1))
    some_pattern xs (constructor_pattern n ps) h = ⊎_elim (λ h. (h.0, inl (h.1))) (λ h. (let p = some_patterns xs ps h in (p.0, inr (p.1)))) h
    some_pattern xs (literal_pattern l) h = absurd h
    some_pattern xs wildcard_pattern h = absurd h
    some_pattern xs (tuple_pattern ps) h = (let p = some_patterns xs ps h in (p.0, p.1))
    some_pattern xs (list_pattern ps) h = (let p = some_patterns xs ps h in (p.0, p.1))
    some_pattern xs (lazy_pattern p) h = (let p = some_pattern xs p h in (p.0, p.1))

    pub some_patterns : (xs : Locals) (t : Patterns) → InPatterns Any xs t → (f : F) × InPatterns (Q f) xs t
    some_patterns xs no_patterns h = absurd h
    some_patterns xs (more_patterns p ps) h = ⊎_elim (λ h. (let p = some_pattern xs p h in (p.0, inl (p.1)))) (λ h. (let p = some_patterns xs ps h in (p.0, inr (p.1)))) h

  pub some_head : (xs : Locals) (t : Patterns) → InHead Any xs t → (f : F) × InHead (Q f) xs t
  some_head xs ps h = ⊎_elim (λ h. (h.0, inl (h.1))) (λ h. (let p = some_patterns xs ps h in (p.0, inr (p.1)))) h

  mutual
    pub some_expression : (xs : Locals) (t : Expression) → InExpression Any xs t → (f : F) × InExpression (Q f) xs t
    some_expression xs (variable_expression n) h = (h.0, h.1)
    some_expression xs (constructor_expression n) h = (h.0, h.1)
    some_expression xs (literal_expression l) h = absurd h
    some_expression xs (application f e) h = ⊎_elim (λ h. (let p = some_expression xs f h in (p.0, inl (p.1)))) (λ h. (let p = some_expression xs e h in (p.0, inr (p.1)))) h
    some_expression xs (lambda ps e) h = ⊎_elim (λ h. (let p = some_head xs ps h in (p.0, inl (p.1)))) (λ h. (let p = some_expression (with_patterns ps xs) e h in (p.0, inr (p.1)))) h
    some_expression xs (let_expression ds e) h = ⊎_elim (λ h. ⊎_elim (λ h. (h.0, inl (inl (h.1)))) (λ h. (let p = some_declarations (with_list ds xs) ds h in (p.0, inl (inr (p.1))))) h) (λ h. (let p = some_expression (with_list ds xs) e h in (p.0, inr (p.1)))) h
    some_expression xs (if_expression a b c) h = ⊎_elim (λ h. (let p = some_expression xs a h in (p.0, inl (p.1)))) (λ h. ⊎_elim (λ h. (let p = some_expression xs b h in (p.0, inr (inl (p.1))))) (λ h. (let p = some_expression xs c h in (p.0, inr (inr (p.1))))) h) h
    some_expression xs (case_expression e bs) h = ⊎_elim (λ h. (let p = some_expression xs e h in (p.0, inl (p.1)))) (λ h. (let p = some_alternatives xs bs h in (p.0, inr (p.1)))) h
    some_expression xs (tuple_expression es) h = (let p = some_expressions xs es h in (p.0, p.1))
    some_expression xs (list_expression es) h = (let p = some_expressions xs es h in (p.0, p.1))
    some_expression xs (typed_expression e t) h = ⊎_elim (λ h. (let p = some_expression xs e h in (p.0, inl (p.1)))) (λ h. (let p = some_type xs t h in (p.0, inr (p.1)))) h

    pub some_expressions : (xs : Locals) (t : Expressions) → InExpressions Any xs t → (f : F) × InExpressions (Q f) xs t
    some_expressions xs no_expressions h = absurd h
    some_expressions xs (more_expressions e es) h = ⊎_elim (λ h. (let p = some_expression xs e h in (p.0, inl (p.1)))) (λ h. (let p = some_expressions xs es h in (p.0, inr (p.1)))) h

    pub some_alternatives : (xs : Locals) (t : Alternatives) → InAlternatives Any xs t → (f : F) × InAlternatives (Q f) xs t
    some_alternatives xs no_alternatives h = absurd h
    some_alternatives xs (more_alternatives (alternative p r) bs) h = ⊎_elim (λ h. (let p = some_head xs (more_patterns p no_patterns) h in (p.0, inl (p.1)))) (λ h. ⊎_elim (λ h. (let p = some_right_side (with_patterns (more_patterns p no_patterns) xs) r h in (p.0, inr (inl (p.1))))) (λ h. (let p = some_alternatives xs bs h in (p.0, inr (inr (p.1))))) h) h

    pub some_right_side : (xs : Locals) (t : RightSide) → InRightSide Any xs t → (f : F) × InRightSide (Q f) xs t
    some_right_side xs (right_side gs ds) h = ⊎_elim (λ h. (let p = some_bodies (with_list ds xs) gs h in (p.0, inl (p.1)))) (λ h. ⊎_elim (λ h. (h.0, inr (inl (h.1)))) (λ h. (let p = some_declarations (with_list ds xs) ds h in (p.0, inr (inr (p.1))))) h) h

    pub some_bodies : (xs : Locals) (t : Bodies) → InBodies Any xs t → (f : F) × InBodies (Q f) xs t
    some_bodies xs no_bodies h = absurd h
    some_bodies xs (plain_body e gs) h = ⊎_elim (λ h. (let p = some_expression xs e h in (p.0, inl (p.1)))) (λ h. (let p = some_bodies xs gs h in (p.0, inr (p.1)))) h
    some_bodies xs (guarded_body g e gs) h = ⊎_elim (λ h. (let p = some_expression xs g h in (p.0, inl (p.1)))) (λ h. ⊎_elim (λ h. (let p = some_expression xs e h in (p.0, inr (inl (p.1))))) (λ h. (let p = some_bodies xs gs h in (p.0, inr (inr (p.1))))) h) h

    pub some_declarations : (xs : Locals) (t : Declarations) → InDeclarations Any xs t → (f : F) × InDeclarations (Q f) xs t
    some_declarations xs no_declarations h = absurd h
    some_declarations xs (more_declarations d ds) h = ⊎_elim (λ h. (let p = some_declaration xs d h in (p.0, inl (p.1)))) (λ h. (let p = some_declarations xs ds h in (p.0, inr (p.1)))) h

    pub some_declaration : (xs : Locals) (t : Declaration) → InDeclaration Any xs t → (f : F) × InDeclaration (Q f) xs t
    some_declaration xs (data_declaration n ps cs) h = ⊎_elim (λ h. (h.0, inl (h.1))) (λ h. (let p = some_constructors xs cs h in (p.0, inr (p.1)))) h
    some_declaration xs (newtype_declaration n ps c) h = ⊎_elim (λ h. (h.0, inl (h.1))) (λ h. (let p = some_constructor xs c h in (p.0, inr (p.1)))) h
    some_declaration xs (synonym_declaration n ps t) h = ⊎_elim (λ h. (h.0, inl (h.1))) (λ h. (let p = some_type xs t h in (p.0, inr (p.1)))) h
    some_declaration xs (signature ns t) h = (let p = some_type xs t h in (p.0, p.1))
    some_declaration xs (clause n ps r) h = ⊎_elim (λ h. (let p = some_head xs ps h in (p.0, inl (p.1)))) (λ h. (let p = some_right_side (with_patterns ps xs) r h in (p.0, inr (p.1)))) h
    some_declaration xs (pattern_binding line column p g) h = ⊎_elim (λ h. (let q = some_head xs (more_patterns p no_patterns) h in (q.0, inl (q.1)))) (λ h. (let q = some_right_side xs g h in (q.0, inr (q.1)))) h

  pub some_top : (ds : List Declaration) → InTop Any ds → (f : F) × InTop (Q f) ds
  some_top ds h = ⊎_elim (λ h. (h.0, inl (h.1))) (λ h. (let p = some_declarations [] (declarations ds) h in (p.0, inr (p.1)))) h
