-- What the walk finds in a part that stands in a module stands there.
use Rattle.std.proofs.Common.{◌≡◌, Bool, true, false, cond, List, [], ◌∷◌, ◌++◌, is_some, refl, sym, ap, inl, ◌∙◌, subst, All}
use Rattle.std.proofs.lemmas.List.Elements.{All-nil, All-cons, All-append}
use Rattle.std.specs.List.{Contains}
use Rattle.hm_types.specs.Interfaces.{Exports as Interface}
use Rattle.hm_syntax.specs.Names.{Identifier}
use Rattle.hm_syntax.specs.Trees.{TypeTree, variable_type, constructor_type, function_type, tuple_type, list_type, unit_type, TypeTrees, no_types, more_types, DataConstructor, data_constructor, DataConstructors, no_constructors, more_constructors, Pattern, variable_pattern, bound_pattern, constructor_pattern, literal_pattern, wildcard_pattern, tuple_pattern, list_pattern, lazy_pattern, Patterns, no_patterns, more_patterns, Expression, variable_expression, constructor_expression, literal_expression, application, lambda, let_expression, if_expression, case_expression, tuple_expression, list_expression, typed_expression, Expressions, no_expressions, more_expressions, Declaration, data_declaration, newtype_declaration, synonym_declaration, signature, clause, pattern_binding, Declarations, no_declarations, more_declarations, RightSide, right_side, Bodies, no_bodies, plain_body, guarded_body, alternative, Alternatives, no_alternatives, more_alternatives}
use Rattle.hm_syntax.specs.Lists.{declarations}
use Rattle.hm_syntax.specs.declared.ast.Module.{Module}
use Rattle.hm_names.specs.declared.namespace.Namespace.TheVariants.{Types, Constructors}
use Rattle.hm_names.specs.Entities.{named}
use Rattle.hm_names.specs.Found.{is_special}
use Rattle.hm_names.specs.Special.{IsSpecial}
use Rattle.hm_names.specs.Variables.{pattern_variables, patterns_variables, type_variables, bound_names}
use Rattle.hm_names.proofs.Members.{first, rest}
use Rattle.hm_uses.specs.declared.name_kind.NameKind.{NameKind}
use Rattle.hm_uses.specs.declared.name_kind.NameKind.TheVariants.{Variable, Constructor, TypeVariable, TypeConstructor}
use Rattle.hm_uses.specs.Scopes.{Around, Home, at_top, local_to, Part, a_type, some_types, a_constructor, some_constructors, a_pattern, some_patterns, an_expression, some_expressions, some_alternatives, a_right_side, some_bodies, a_declaration, some_declarations, In}
use Rattle.hm_uses.specs.Scopes as scopes
use Rattle.hm_uses.specs.Uses.{Sense, UseOf, ByScope, OfBinder, InDeclarations, IsUse}
use Rattle.hm_uses.specs.Uses as uses
use Rattle.hm_uses.specs.Found.{Known, Knows, scope_sense, binder_sense, parameter_sense, use_as, constructor_use, binder_use, signed_uses, parameter_uses, own_use, type_uses, types_uses, declared_constructor_uses, declared_constructors_uses, pattern_uses, patterns_uses, expression_uses, expressions_uses, alternatives_uses, right_side_uses, bodies_uses, declarations_uses, declaration_uses}
use Rattle.hm_uses.proofs.Senses.{by_scope, of_variable, of_binder, of_type_variable}

special_is : (n : Identifier) → IsSpecial n → is_special n ≡ true
special_is n s = ap (λ o. is_some o) s.1

module _ (m : Module) (fs : List Interface) (k : Known) (a : Knows m fs k) where
  abbrev Good : List UseOf → Type 0
  Good us = All (IsUse m fs) us

  none : Good []
  none = All-nil (IsUse m fs)

  both : (us vs : List UseOf) → Good us → Good vs → Good (us ++ vs)
  both us vs g h = All-append (IsUse m fs) us vs g h

  single : (n : Identifier) (s : NameKind) (b : Bool) (t : Sense) → InDeclarations m fs n s b t → Good (use_as s b n t)
  single n s b t h = All-cons (IsUse m fs) (record { mention = record { name = n; kind = s; binds = b }; sense = t }) [] (inl h) none

  own_name : (n : Identifier) (s : NameKind) → InDeclarations m fs n s true (uses.an_entity (named m.header.name.text n.text)) → Good (own_use k s n)
  own_name n s h = single n s true _ (subst (λ y. InDeclarations m fs n s true (uses.an_entity (named y n.text))) (sym a.home) h)

  -- a constructor, unless it is special
  constructor_good : (n : Identifier) → (¬ (IsSpecial n) → InDeclarations m fs n Constructor false (scope_sense k Constructors n)) → Good (constructor_use k n)
  constructor_good n h = go (is_special n) refl
    where
      go : (b : Bool) → is_special n ≡ b → Good (cond b [] (use_as Constructor false n (scope_sense k Constructors n)))
      go true e = none
      go false e = single n Constructor false _ (h (λ s. let z : true ≡ false = sym (special_is n s) ∙ e in cc))

  signed_good : (h : Home) (ms ns : List Identifier) → ((n : Identifier) → Contains ms n → InDeclarations m fs n Variable false (binder_sense k n.text h)) → ((n : Identifier) → Contains ns n → Contains ms n) → Good (signed_uses k h ns)
  signed_good h ms [] f g = none
  signed_good h ms (n ∷ ns) f g = both (binder_use k h false n) (signed_uses k h ns) (single n Variable false _ (f n (g n (first n ns)))) (signed_good h ms ns f (λ y c. g y (rest n ns y c)))

  parameters_good : (vs ns : List Identifier) → ((n : Identifier) → Contains vs n → InDeclarations m fs n TypeVariable true (parameter_sense n.text vs)) → ((n : Identifier) → Contains ns n → Contains vs n) → Good (parameter_uses vs ns)
  parameters_good vs [] f g = none
  parameters_good vs (n ∷ ns) f g = both (use_as TypeVariable true n (parameter_sense n.text vs)) (parameter_uses vs ns) (single n TypeVariable true _ (f n (g n (first n ns)))) (parameters_good vs ns f (λ y c. g y (rest n ns y c)))

  mutual
    pub good_type : (xs : Around) (vs : List Identifier) (t : TypeTree) → In m xs (a_type vs t) → Good (type_uses k vs t)
    good_type xs vs (variable_type n) i = single n TypeVariable false _ (uses.in_type i (of_type_variable n.text vs))
    good_type xs vs (constructor_type n ts) i = both (use_as TypeConstructor false n (scope_sense k Types n)) (types_uses k vs ts) (single n TypeConstructor false _ (uses.type_constructor i (by_scope m fs k a Types n))) (good_types xs vs ts (scopes.type_arguments i))
    good_type xs vs (function_type c d) i = both (type_uses k vs c) (type_uses k vs d) (good_type xs vs c (scopes.domain i)) (good_type xs vs d (scopes.range i))
    good_type xs vs (tuple_type ts) i = good_types xs vs ts (scopes.tuple_types i)
    good_type xs vs (list_type t) i = good_type xs vs t (scopes.element_type i)
    good_type xs vs unit_type i = none

    pub good_types : (xs : Around) (vs : List Identifier) (ts : TypeTrees) → In m xs (some_types vs ts) → Good (types_uses k vs ts)
    good_types xs vs no_types i = none
    good_types xs vs (more_types t ts) i = both (type_uses k vs t) (types_uses k vs ts) (good_type xs vs t (scopes.first_type i)) (good_types xs vs ts (scopes.later_types i))

  good_constructor : (xs : Around) (vs : List Identifier) (c : DataConstructor) → In m xs (a_constructor vs c) → Good (declared_constructor_uses k vs c)
  good_constructor xs vs (data_constructor n ts) i = both (own_use k Constructor n) (types_uses k vs ts) (own_name n Constructor (uses.declared_constructor i)) (good_types xs vs ts (scopes.arguments i))

  good_constructors : (xs : Around) (vs : List Identifier) (cs : DataConstructors) → In m xs (some_constructors vs cs) → Good (declared_constructors_uses k vs cs)
  good_constructors xs vs no_constructors i = none
  good_constructors xs vs (more_constructors c cs) i = both (declared_constructor_uses k vs c) (declared_constructors_uses k vs cs) (good_constructor xs vs c (scopes.first_constructor i)) (good_constructors xs vs cs (scopes.later_constructors i))

  mutual
    good_pattern : (xs : Around) (h : Home) (p : Pattern) → In m xs (a_pattern h p) → Good (pattern_uses k h p)
    good_pattern xs h (variable_pattern n) i = single n Variable true _ (uses.bound_variable i (of_binder m fs k a n.text h))
    good_pattern xs h (bound_pattern n p) i = both (binder_use k h true n) (pattern_uses k h p) (single n Variable true _ (uses.as_variable i (of_binder m fs k a n.text h))) (good_pattern xs h p (scopes.bound i))
    good_pattern xs h (constructor_pattern n ps) i = both (constructor_use k n) (patterns_uses k h ps) (constructor_good n (λ s. uses.matched_constructor i s (by_scope m fs k a Constructors n))) (good_patterns xs h ps (scopes.constructor_arguments i))
    good_pattern xs h (literal_pattern l) i = none
    good_pattern xs h wildcard_pattern i = none
    good_pattern xs h (tuple_pattern ps) i = good_patterns xs h ps (scopes.tuple_components i)
    good_pattern xs h (list_pattern ps) i = good_patterns xs h ps (scopes.list_elements i)
    good_pattern xs h (lazy_pattern p) i = good_pattern xs h p (scopes.lazily i)

    good_patterns : (xs : Around) (h : Home) (ps : Patterns) → In m xs (some_patterns h ps) → Good (patterns_uses k h ps)
    good_patterns xs h no_patterns i = none
    good_patterns xs h (more_patterns p ps) i = both (pattern_uses k h p) (patterns_uses k h ps) (good_pattern xs h p (scopes.first_pattern i)) (good_patterns xs h ps (scopes.later_patterns i))

  mutual
    good_expression : (xs : Around) (e : Expression) → In m xs (an_expression e) → Good (expression_uses k xs e)
    good_expression xs (variable_expression n) i = single n Variable false _ (uses.variable i (of_variable m fs k a xs n))
    good_expression xs (constructor_expression n) i = constructor_good n (λ s. uses.constructor i s (by_scope m fs k a Constructors n))
    good_expression xs (literal_expression l) i = none
    good_expression xs (application f e) i = both (expression_uses k xs f) (expression_uses k xs e) (good_expression xs f (scopes.function i)) (good_expression xs e (scopes.argument i))
    good_expression xs (lambda ps e) i = both (patterns_uses k (local_to (patterns_variables ps)) ps) (expression_uses k (patterns_variables ps ++ xs) e) (good_patterns xs (local_to (patterns_variables ps)) ps (scopes.lambda_patterns i)) (good_expression (patterns_variables ps ++ xs) e (scopes.lambda_body i))
    good_expression xs (let_expression ds e) i = both (declarations_uses k (bound_names ds ++ xs) (local_to (bound_names ds)) ds) (expression_uses k (bound_names ds ++ xs) e) (good_declarations (bound_names ds ++ xs) (local_to (bound_names ds)) ds (scopes.let_list i)) (good_expression (bound_names ds ++ xs) e (scopes.let_body i))
    good_expression xs (if_expression c d e) i = both (expression_uses k xs c) (expression_uses k xs d ++ expression_uses k xs e) (good_expression xs c (scopes.condition i)) (both (expression_uses k xs d) (expression_uses k xs e) (good_expression xs d (scopes.consequent i)) (good_expression xs e (scopes.otherwise i)))
    good_expression xs (case_expression e bs) i = both (expression_uses k xs e) (alternatives_uses k xs bs) (good_expression xs e (scopes.scrutinee i)) (good_alternatives xs bs (scopes.alternatives i))
    good_expression xs (tuple_expression es) i = good_expressions xs es (scopes.components i)
    good_expression xs (list_expression es) i = good_expressions xs es (scopes.elements i)
    good_expression xs (typed_expression e t) i = both (expression_uses k xs e) (type_uses k (type_variables t) t) (good_expression xs e (scopes.typed i)) (good_type xs (type_variables t) t (scopes.annotation i))

    good_expressions : (xs : Around) (es : Expressions) → In m xs (some_expressions es) → Good (expressions_uses k xs es)
    good_expressions xs no_expressions i = none
    good_expressions xs (more_expressions e es) i = both (expression_uses k xs e) (expressions_uses k xs es) (good_expression xs e (scopes.first_expression i)) (good_expressions xs es (scopes.later_expressions i))

    good_alternatives : (xs : Around) (bs : Alternatives) → In m xs (some_alternatives bs) → Good (alternatives_uses k xs bs)
    good_alternatives xs no_alternatives i = none
    good_alternatives xs (more_alternatives (alternative p r) bs) i =
        both (pattern_uses k (local_to (pattern_variables p)) p ++ right_side_uses k (pattern_variables p ++ xs) r) (alternatives_uses k xs bs)
        (both (pattern_uses k (local_to (pattern_variables p)) p) (right_side_uses k (pattern_variables p ++ xs) r) (good_pattern xs (local_to (pattern_variables p)) p (scopes.alternative_pattern i)) (good_right_side (pattern_variables p ++ xs) r (scopes.alternative_side i)))
        (good_alternatives xs bs (scopes.later_alternatives i))

    good_right_side : (xs : Around) (r : RightSide) → In m xs (a_right_side r) → Good (right_side_uses k xs r)
    good_right_side xs (right_side gs ds) i = both (bodies_uses k (bound_names ds ++ xs) gs) (declarations_uses k (bound_names ds ++ xs) (local_to (bound_names ds)) ds) (good_bodies (bound_names ds ++ xs) gs (scopes.guarded i)) (good_declarations (bound_names ds ++ xs) (local_to (bound_names ds)) ds (scopes.where_list i))

    good_bodies : (xs : Around) (gs : Bodies) → In m xs (some_bodies gs) → Good (bodies_uses k xs gs)
    good_bodies xs no_bodies i = none
    good_bodies xs (plain_body e gs) i = both (expression_uses k xs e) (bodies_uses k xs gs) (good_expression xs e (scopes.plain i)) (good_bodies xs gs (scopes.after_plain i))
    good_bodies xs (guarded_body g e gs) i = both (expression_uses k xs g ++ expression_uses k xs e) (bodies_uses k xs gs) (both (expression_uses k xs g) (expression_uses k xs e) (good_expression xs g (scopes.guard i)) (good_expression xs e (scopes.after_guard i))) (good_bodies xs gs (scopes.other_bodies i))

    pub good_declarations : (xs : Around) (h : Home) (ds : Declarations) → In m xs (some_declarations h ds) → Good (declarations_uses k xs h ds)
    good_declarations xs h no_declarations i = none
    good_declarations xs h (more_declarations d ds) i = both (declaration_uses k xs h d) (declarations_uses k xs h ds) (good_declaration xs h d (scopes.first_declaration i)) (good_declarations xs h ds (scopes.later_declarations i))

    good_declaration : (xs : Around) (h : Home) (d : Declaration) → In m xs (a_declaration h d) → Good (declaration_uses k xs h d)
    good_declaration xs h (data_declaration n ps cs) i = both (own_use k TypeConstructor n) (parameter_uses ps ps ++ declared_constructors_uses k ps cs) (own_name n TypeConstructor (uses.data_type i)) (both (parameter_uses ps ps) (declared_constructors_uses k ps cs) (parameters_good ps ps (λ y c. uses.data_parameter i c (of_type_variable y.text ps)) (λ y c. c)) (good_constructors xs ps cs (scopes.data_constructors i)))
    good_declaration xs h (newtype_declaration n ps c) i = both (own_use k TypeConstructor n) (parameter_uses ps ps ++ declared_constructor_uses k ps c) (own_name n TypeConstructor (uses.newtype i)) (both (parameter_uses ps ps) (declared_constructor_uses k ps c) (parameters_good ps ps (λ y d. uses.newtype_parameter i d (of_type_variable y.text ps)) (λ y d. d)) (good_constructor xs ps c (scopes.newtype_constructor i)))
    good_declaration xs h (synonym_declaration n ps t) i = both (own_use k TypeConstructor n) (parameter_uses ps ps ++ type_uses k ps t) (own_name n TypeConstructor (uses.synonym i)) (both (parameter_uses ps ps) (type_uses k ps t) (parameters_good ps ps (λ y c. uses.synonym_parameter i c (of_type_variable y.text ps)) (λ y c. c)) (good_type xs ps t (scopes.synonym_type i)))
    good_declaration xs h (signature ns t) i = both (signed_uses k h ns) (type_uses k (type_variables t) t) (signed_good h ns ns (λ y c. uses.signed i c (of_binder m fs k a y.text h)) (λ y c. c)) (good_type xs (type_variables t) t (scopes.signature_type i))
    good_declaration xs h (clause n ps r) i = both (binder_use k h true n) (patterns_uses k (local_to (patterns_variables ps)) ps ++ right_side_uses k (patterns_variables ps ++ xs) r) (single n Variable true _ (uses.defined i (of_binder m fs k a n.text h)))
        (both (patterns_uses k (local_to (patterns_variables ps)) ps) (right_side_uses k (patterns_variables ps ++ xs) r) (good_patterns xs (local_to (patterns_variables ps)) ps (scopes.clause_patterns i)) (good_right_side (patterns_variables ps ++ xs) r (scopes.clause_side i)))
    good_declaration xs h (pattern_binding l c p r) i = both (pattern_uses k h p) (right_side_uses k xs r) (good_pattern xs h p (scopes.matched_pattern i)) (good_right_side xs r (scopes.matched_side i))

  -- all that is found in the declarations of the module
  pub good_module : Good (declarations_uses k [] at_top (declarations m.decls))
  good_module = good_declarations [] at_top (declarations m.decls) scopes.top
