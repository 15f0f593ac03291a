-- A rule that holds somewhere in a module holds at a part of it, with the variables that are bound around it.
use Rattle.std.proofs.Common.{◌≡◌, List, [], ◌++◌, inl, inr, subst, sym, append-nil}
use Rattle.std.proofs.lemmas.List.{map-append}
use Rattle.hm_syntax.specs.Lists.{declarations}
use Rattle.hm_syntax.specs.Names.{Identifier}
use Rattle.hm_syntax.specs.Trees.{TypeTree, variable_type, constructor_type, function_type, tuple_type, list_type, unit_type, TypeTrees, no_types, more_types, DataConstructor, data_constructor, DataConstructors, no_constructors, more_constructors, Pattern, variable_pattern, bound_pattern, constructor_pattern, literal_pattern, wildcard_pattern, tuple_pattern, list_pattern, lazy_pattern, Patterns, no_patterns, more_patterns, Expression, variable_expression, constructor_expression, literal_expression, application, lambda, let_expression, if_expression, case_expression, tuple_expression, list_expression, typed_expression, Expressions, no_expressions, more_expressions, Declaration, data_declaration, newtype_declaration, synonym_declaration, signature, clause, pattern_binding, Declarations, no_declarations, more_declarations, RightSide, right_side, Bodies, no_bodies, plain_body, guarded_body, alternative, Alternatives, no_alternatives, more_alternatives}
use Rattle.hm_syntax.specs.declared.ast.Module.{Module}
use Rattle.hm_types.specs.Interfaces.{Exports as Interface}
use Rattle.hm_names.specs.declared.faults.Kind.{Kind}
use Rattle.hm_names.specs.Faults.Names.{NameFault}
use Rattle.hm_names.specs.Variables.{texts, pattern_variables, patterns_variables, type_variables, constructor_variables, constructors_variables, bound_names}
use Rattle.hm_names.specs.Walk.{Locals, Node, Somewhere, at_expression, at_pattern, at_type, at_head, at_parameters, at_list, with_list, InType, InTypes, InConstructor, InConstructors, InPattern, InPatterns, InHead, InExpression, InExpressions, InAlternatives, InRightSide, InBodies, InDeclarations, InDeclaration}
use Rattle.hm_uses.specs.Scopes.{Around, Home, at_top, local_to, In, a_type, some_types, a_constructor, some_constructors, a_pattern, some_patterns, an_expression, some_expressions, some_alternatives, a_right_side, some_bodies, a_declaration, some_declarations}
use Rattle.hm_uses.specs.Scopes as scopes

-- the texts of what is around a part, with more binders
pub wider : (ns xs : Around) → texts (ns ++ xs) ≡ texts ns ++ texts xs
wider ns xs = map-append (λ (n : Identifier). n.text) ns xs

pub of_one : (p : Pattern) → patterns_variables (more_patterns p no_patterns) ≡ pattern_variables p
of_one p = append-nil (pattern_variables p)

-- what is shown of a fault at each kind of node that has one
pub record Cases (m : Module) (fs : List Interface) (k : Kind) (n : Identifier) (R : Type 0) : Type 0 where
  pub variable : (xs : Around) (v : Identifier) → In m xs (an_expression (variable_expression v)) → NameFault m fs (texts xs) (at_expression (variable_expression v)) k n → R
  pub constructor : (xs : Around) (v : Identifier) → In m xs (an_expression (constructor_expression v)) → NameFault m fs (texts xs) (at_expression (constructor_expression v)) k n → R
  pub pattern : (xs : Around) (h : Home) (v : Identifier) (ps : Patterns) → In m xs (a_pattern h (constructor_pattern v ps)) → (ys : Locals) → NameFault m fs ys (at_pattern (constructor_pattern v ps)) k n → R
  pub typed : (xs : Around) (vs : List Identifier) (v : Identifier) (ts : TypeTrees) → In m xs (a_type vs (constructor_type v ts)) → (ys : Locals) → NameFault m fs ys (at_type (constructor_type v ts)) k n → R
  pub bare_type : (ys : Locals) (v : Identifier) → NameFault m fs ys (at_type (variable_type v)) k n → R
  pub in_data : (xs : Around) (ps : List Identifier) (cs : DataConstructors) → In m xs (some_constructors ps cs) → (ys : Locals) → NameFault m fs ys (at_parameters ps (constructors_variables cs)) k n → R
  pub in_newtype : (xs : Around) (ps : List Identifier) (c : DataConstructor) → In m xs (a_constructor ps c) → (ys : Locals) → NameFault m fs ys (at_parameters ps (constructor_variables c)) k n → R
  pub in_synonym : (xs : Around) (ps : List Identifier) (t : TypeTree) → In m xs (a_type ps t) → (ys : Locals) → NameFault m fs ys (at_parameters ps (type_variables t)) k n → R
  pub head : (ys : Locals) (ps : Patterns) → NameFault m fs ys (at_head ps) k n → R
  pub list : (ys : Locals) (ds : Declarations) → NameFault m fs ys (at_list ds) k n → R

module _ (m : Module) (fs : List Interface) (k : Kind) (n : Identifier) (R : Type 0) (c : Cases m fs k n R) where
  abbrev Q : Locals → Node → Type 0
  Q ys t = NameFault m fs ys t k n

  mutual
    in_type : (ys : Locals) (xs : Around) (vs : List Identifier) (t : TypeTree) → In m xs (a_type vs t) → InType Q ys t → R
    in_type ys xs vs (variable_type v) i h = c.bare_type ys v h
    in_type ys xs vs (constructor_type v ts) i (inl h) = c.typed xs vs v ts i ys h
    in_type ys xs vs (constructor_type v ts) i (inr h) = in_types ys xs vs ts (scopes.type_arguments i) h
    in_type ys xs vs (function_type a b) i (inl h) = in_type ys xs vs a (scopes.domain i) h
    in_type ys xs vs (function_type a b) i (inr h) = in_type ys xs vs b (scopes.range i) h
    in_type ys xs vs (tuple_type ts) i h = in_types ys xs vs ts (scopes.tuple_types i) h
    in_type ys xs vs (list_type t) i h = in_type ys xs vs t (scopes.element_type i) h
    in_type ys xs vs unit_type i h = absurd h

    in_types : (ys : Locals) (xs : Around) (vs : List Identifier) (ts : TypeTrees) → In m xs (some_types vs ts) → InTypes Q ys ts → R
    in_types ys xs vs no_types i h = absurd h
    in_types ys xs vs (more_types t ts) i (inl h) = in_type ys xs vs t (scopes.first_type i) h
    in_types ys xs vs (more_types t ts) i (inr h) = in_types ys xs vs ts (scopes.later_types i) h

  in_constructor : (ys : Locals) (xs : Around) (vs : List Identifier) (d : DataConstructor) → In m xs (a_constructor vs d) → InConstructor Q ys d → R
  in_constructor ys xs vs (data_constructor v ts) i h = in_types ys xs vs ts (scopes.arguments i) h

  in_constructors : (ys : Locals) (xs : Around) (vs : List Identifier) (cs : DataConstructors) → In m xs (some_constructors vs cs) → InConstructors Q ys cs → R
  in_constructors ys xs vs no_constructors i h = absurd h
  in_constructors ys xs vs (more_constructors d cs) i (inl h) = in_constructor ys xs vs d (scopes.first_constructor i) h
  in_constructors ys xs vs (more_constructors d cs) i (inr h) = in_constructors ys xs vs cs (scopes.later_constructors i) h

  mutual
    in_pattern : (ys : Locals) (xs : Around) (w : Home) (p : Pattern) → In m xs (a_pattern w p) → InPattern Q ys p → R
    in_pattern ys xs w (variable_pattern v) i h = absurd h
    in_pattern ys xs w (bound_pattern v p) i h = in_pattern ys xs w p (scopes.bound i) h
    in_pattern ys xs w (constructor_pattern v ps) i (inl h) = c.pattern xs w v ps i ys h
    in_pattern ys xs w (constructor_pattern v ps) i (inr h) = in_patterns ys xs w ps (scopes.constructor_arguments i) h
    in_pattern ys xs w (literal_pattern l) i h = absurd h
    in_pattern ys xs w wildcard_pattern i h = absurd h
    in_pattern ys xs w (tuple_pattern ps) i h = in_patterns ys xs w ps (scopes.tuple_components i) h
    in_pattern ys xs w (list_pattern ps) i h = in_patterns ys xs w ps (scopes.list_elements i) h
    in_pattern ys xs w (lazy_pattern p) i h = in_pattern ys xs w p (scopes.lazily i) h

    in_patterns : (ys : Locals) (xs : Around) (w : Home) (ps : Patterns) → In m xs (some_patterns w ps) → InPatterns Q ys ps → R
    in_patterns ys xs w no_patterns i h = absurd h
    in_patterns ys xs w (more_patterns p ps) i (inl h) = in_pattern ys xs w p (scopes.first_pattern i) h
    in_patterns ys xs w (more_patterns p ps) i (inr h) = in_patterns ys xs w ps (scopes.later_patterns i) h

  in_head : (ys : Locals) (xs : Around) (w : Home) (ps : Patterns) → In m xs (some_patterns w ps) → InHead Q ys ps → R
  in_head ys xs w ps i (inl h) = c.head ys ps h
  in_head ys xs w ps i (inr h) = in_patterns ys xs w ps i h

  -- of one pattern
  in_single : (ys : Locals) (xs : Around) (w : Home) (p : Pattern) → In m xs (a_pattern w p) → InHead Q ys (more_patterns p no_patterns) → R
  in_single ys xs w p i (inl h) = c.head ys (more_patterns p no_patterns) h
  in_single ys xs w p i (inr (inl h)) = in_pattern ys xs w p i h
  in_single ys xs w p i (inr (inr h)) = absurd h

  mutual
    in_expression : (xs : Around) (e : Expression) → In m xs (an_expression e) → InExpression Q (texts xs) e → R
    in_expression xs (variable_expression v) i h = c.variable xs v i h
    in_expression xs (constructor_expression v) i h = c.constructor xs v i h
    in_expression xs (literal_expression l) i h = absurd h
    in_expression xs (application f e) i (inl h) = in_expression xs f (scopes.function i) h
    in_expression xs (application f e) i (inr h) = in_expression xs e (scopes.argument i) h
    in_expression xs (lambda ps e) i (inl h) = in_head (texts xs) xs (local_to (patterns_variables ps)) ps (scopes.lambda_patterns i) h
    in_expression xs (lambda ps e) i (inr h) = in_expression (patterns_variables ps ++ xs) e (scopes.lambda_body i) (subst (λ l. InExpression Q l e) (sym (wider (patterns_variables ps) xs)) h)
    in_expression xs (let_expression ds e) i (inl (inl h)) = c.list (with_list ds (texts xs)) ds h
    in_expression xs (let_expression ds e) i (inl (inr h)) = in_declarations (bound_names ds ++ xs) (local_to (bound_names ds)) ds (scopes.let_list i) (subst (λ l. InDeclarations Q l ds) (sym (wider (bound_names ds) xs)) h)
    in_expression xs (let_expression ds e) i (inr h) = in_expression (bound_names ds ++ xs) e (scopes.let_body i) (subst (λ l. InExpression Q l e) (sym (wider (bound_names ds) xs)) h)
    in_expression xs (if_expression a b d) i (inl h) = in_expression xs a (scopes.condition i) h
    in_expression xs (if_expression a b d) i (inr (inl h)) = in_expression xs b (scopes.consequent i) h
    in_expression xs (if_expression a b d) i (inr (inr h)) = in_expression xs d (scopes.otherwise i) h
    in_expression xs (case_expression e bs) i (inl h) = in_expression xs e (scopes.scrutinee i) h
    in_expression xs (case_expression e bs) i (inr h) = in_alternatives xs bs (scopes.alternatives i) h
    in_expression xs (tuple_expression es) i h = in_expressions xs es (scopes.components i) h
    in_expression xs (list_expression es) i h = in_expressions xs es (scopes.elements i) h
    in_expression xs (typed_expression e t) i (inl h) = in_expression xs e (scopes.typed i) h
    in_expression xs (typed_expression e t) i (inr h) = in_type (texts xs) xs (type_variables t) t (scopes.annotation i) h

    in_expressions : (xs : Around) (es : Expressions) → In m xs (some_expressions es) → InExpressions Q (texts xs) es → R
    in_expressions xs no_expressions i h = absurd h
    in_expressions xs (more_expressions e es) i (inl h) = in_expression xs e (scopes.first_expression i) h
    in_expressions xs (more_expressions e es) i (inr h) = in_expressions xs es (scopes.later_expressions i) h

    in_alternatives : (xs : Around) (bs : Alternatives) → In m xs (some_alternatives bs) → InAlternatives Q (texts xs) bs → R
    in_alternatives xs no_alternatives i h = absurd h
    in_alternatives xs (more_alternatives (alternative p r) bs) i (inl h) = in_single (texts xs) xs (local_to (pattern_variables p)) p (scopes.alternative_pattern i) h
    in_alternatives xs (more_alternatives (alternative p r) bs) i (inr (inl h)) = in_right_side (pattern_variables p ++ xs) r (scopes.alternative_side i)
        (subst (λ l. InRightSide Q l r) (sym (wider (pattern_variables p) xs)) (subst (λ vs. InRightSide Q (texts vs ++ texts xs) r) (of_one p) h))
    in_alternatives xs (more_alternatives (alternative p r) bs) i (inr (inr h)) = in_alternatives xs bs (scopes.later_alternatives i) h

    in_right_side : (xs : Around) (r : RightSide) → In m xs (a_right_side r) → InRightSide Q (texts xs) r → R
    in_right_side xs (right_side gs ds) i (inl h) = in_bodies (bound_names ds ++ xs) gs (scopes.guarded i) (subst (λ l. InBodies Q l gs) (sym (wider (bound_names ds) xs)) h)
    in_right_side xs (right_side gs ds) i (inr (inl h)) = c.list (with_list ds (texts xs)) ds h
    in_right_side xs (right_side gs ds) i (inr (inr h)) = in_declarations (bound_names ds ++ xs) (local_to (bound_names ds)) ds (scopes.where_list i) (subst (λ l. InDeclarations Q l ds) (sym (wider (bound_names ds) xs)) h)

    in_bodies : (xs : Around) (gs : Bodies) → In m xs (some_bodies gs) → InBodies Q (texts xs) gs → R
    in_bodies xs no_bodies i h = absurd h
    in_bodies xs (plain_body e gs) i (inl h) = in_expression xs e (scopes.plain i) h
    in_bodies xs (plain_body e gs) i (inr h) = in_bodies xs gs (scopes.after_plain i) h
    in_bodies xs (guarded_body g e gs) i (inl h) = in_expression xs g (scopes.guard i) h
    in_bodies xs (guarded_body g e gs) i (inr (inl h)) = in_expression xs e (scopes.after_guard i) h
    in_bodies xs (guarded_body g e gs) i (inr (inr h)) = in_bodies xs gs (scopes.other_bodies i) h

    in_declarations : (xs : Around) (w : Home) (ds : Declarations) → In m xs (some_declarations w ds) → InDeclarations Q (texts xs) ds → R
    in_declarations xs w no_declarations i h = absurd h
    in_declarations xs w (more_declarations d ds) i (inl h) = in_declaration xs w d (scopes.first_declaration i) h
    in_declarations xs w (more_declarations d ds) i (inr h) = in_declarations xs w ds (scopes.later_declarations i) h

    in_declaration : (xs : Around) (w : Home) (d : Declaration) → In m xs (a_declaration w d) → InDeclaration Q (texts xs) d → R
    in_declaration xs w (data_declaration v ps cs) i (inl h) = c.in_data xs ps cs (scopes.data_constructors i) (texts xs) h
    in_declaration xs w (data_declaration v ps cs) i (inr h) = in_constructors (texts xs) xs ps cs (scopes.data_constructors i) h
    in_declaration xs w (newtype_declaration v ps d) i (inl h) = c.in_newtype xs ps d (scopes.newtype_constructor i) (texts xs) h
    in_declaration xs w (newtype_declaration v ps d) i (inr h) = in_constructor (texts xs) xs ps d (scopes.newtype_constructor i) h
    in_declaration xs w (synonym_declaration v ps t) i (inl h) = c.in_synonym xs ps t (scopes.synonym_type i) (texts xs) h
    in_declaration xs w (synonym_declaration v ps t) i (inr h) = in_type (texts xs) xs ps t (scopes.synonym_type i) h
    in_declaration xs w (signature ns t) i h = in_type (texts xs) xs (type_variables t) t (scopes.signature_type i) h
    in_declaration xs w (clause v ps r) i (inl h) = in_head (texts xs) xs (local_to (patterns_variables ps)) ps (scopes.clause_patterns i) h
    in_declaration xs w (clause v ps r) i (inr h) = in_right_side (patterns_variables ps ++ xs) r (scopes.clause_side i) (subst (λ l. InRightSide Q l r) (sym (wider (patterns_variables ps) xs)) h)
    in_declaration xs w (pattern_binding l col p r) i (inl h) = in_single (texts xs) xs w p (scopes.matched_pattern i) h
    in_declaration xs w (pattern_binding l col p r) i (inr h) = in_right_side xs r (scopes.matched_side i) h

  pub somewhere : Somewhere m Q → R
  somewhere (inl h) = c.list [] (declarations m.decls) h
  somewhere (inr h) = in_declarations [] at_top (declarations m.decls) scopes.top h
