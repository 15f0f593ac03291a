-- The uses of names as the walk over a module finds them. No public clause names these.
use Rattle.std.specs.Prelude.{ℕ, Bool, true, false, cond, List, [], ◌∷◌, ◌++◌, Option, None, Some, ◌≡◌, ◌↔◌, IsTrue}
use Rattle.hm_syntax.specs.Names.{Identifier}
use Rattle.hm_syntax.specs.Trees.{TypeTree, variable_type, constructor_type, function_type, tuple_type, list_type, unit_type, TypeTrees, no_types, more_types, DataConstructor, data_constructor, DataConstructors, no_constructors, more_constructors, Pattern, variable_pattern, bound_pattern, constructor_pattern, literal_pattern, wildcard_pattern, tuple_pattern, list_pattern, lazy_pattern, Patterns, no_patterns, more_patterns, Expression, variable_expression, constructor_expression, literal_expression, application, lambda, let_expression, if_expression, case_expression, tuple_expression, list_expression, typed_expression, Expressions, no_expressions, more_expressions, Declaration, data_declaration, newtype_declaration, synonym_declaration, signature, clause, pattern_binding, Declarations, no_declarations, more_declarations, RightSide, right_side, Bodies, no_bodies, plain_body, guarded_body, alternative, Alternatives, no_alternatives, more_alternatives}
use Rattle.hm_names.specs.declared.namespace.Namespace.{Namespace}
use Rattle.hm_names.specs.declared.namespace.Namespace.TheVariants.{Types, Constructors, Values}
use Rattle.hm_names.specs.Texts.{same_text, is_text_among}
use Rattle.hm_names.specs.Variables.{pattern_variables, patterns_variables, type_variables, bound_names}
use Rattle.hm_names.specs.Entities.{Declares, named}
use Rattle.hm_names.specs.Found.{is_special, no_qualifier}
use Rattle.hm_types.specs.Interfaces.{Exports as Interface}
use Rattle.hm_syntax.specs.declared.ast.Module.{Module}
use Rattle.hm_names.specs.Bindings.{Pair, IsScopeOf, MeaningOf, meaning_in}
use Rattle.hm_names.specs.Bindings as meaning
use Rattle.hm_uses.specs.declared.name_kind.NameKind.{NameKind}
use Rattle.hm_uses.specs.declared.name_kind.NameKind.TheVariants.{Variable, Constructor, TypeVariable, TypeConstructor}
use Rattle.hm_uses.specs.Scopes.{Around, Home, at_top, local_to}
use Rattle.hm_uses.specs.Uses.{Sense, local_variable, type_variable, an_entity, unbound, ambiguous, UseOf}

-- the name of the module, the texts of the variables that it declares, and the pairs of its scope
pub record Known : Type 0 where
  pub home : List ℕ
  pub top : List (List ℕ)
  pub pairs : List Pair

-- what is known is so of the module
pub record Knows (m : Module) (fs : List Interface) (k : Known) : Type 0 where
  pub home : k.home ≡ m.header.name.text
  pub top : (x : List ℕ) → IsTrue (is_text_among x k.top) ↔ Declares m x Values
  pub scope : IsScopeOf m fs k.pairs

abbrev pub sense_in : MeaningOf → Sense
sense_in meaning.unbound = unbound
sense_in meaning.ambiguous = ambiguous
sense_in (meaning.entity e) = an_entity e

abbrev pub scope_sense : Known → Namespace → Identifier → Sense
scope_sense k s n = sense_in (meaning_in k.pairs s n)

-- the first of these with the name x
abbrev pub first_named : List ℕ → List Identifier → Option Identifier
first_named x [] = None
first_named x (b ∷ bs) = cond (same_text b.text x) (Some b) (first_named x bs)

abbrev pub local_or : Sense → Option Identifier → Sense
local_or t None = t
local_or t (Some b) = local_variable b.line b.column

abbrev pub parameter_or : Sense → Option Identifier → Sense
parameter_or t None = t
parameter_or t (Some b) = type_variable b.line b.column

abbrev pub variable_sense : Known → Around → Identifier → Sense
variable_sense k xs n = cond (no_qualifier n.qualifier) (local_or (scope_sense k Values n) (first_named n.text xs)) (scope_sense k Values n)

abbrev pub binder_sense : Known → List ℕ → Home → Sense
binder_sense k x at_top = cond (is_text_among x k.top) (an_entity (named k.home x)) unbound
binder_sense k x (local_to bs) = local_or unbound (first_named x bs)

abbrev pub parameter_sense : List ℕ → List Identifier → Sense
parameter_sense x vs = parameter_or unbound (first_named x vs)

abbrev pub use_as : NameKind → Bool → Identifier → Sense → List UseOf
use_as k b n t = record { mention = record { name = n; kind = k; binds = b }; sense = t } ∷ []

abbrev pub constructor_use : Known → Identifier → List UseOf
constructor_use k n = cond (is_special n) [] (use_as Constructor false n (scope_sense k Constructors n))

abbrev pub binder_use : Known → Home → Bool → Identifier → List UseOf
binder_use k h b n = use_as Variable b n (binder_sense k n.text h)

abbrev pub signed_uses : Known → Home → List Identifier → List UseOf
signed_uses k h [] = []
signed_uses k h (n ∷ ns) = binder_use k h false n ++ signed_uses k h ns

abbrev pub parameter_uses : List Identifier → List Identifier → List UseOf
parameter_uses vs [] = []
parameter_uses vs (n ∷ ns) = use_as TypeVariable true n (parameter_sense n.text vs) ++ parameter_uses vs ns

-- the use of a name that the module declares: of a type or a constructor
abbrev pub own_use : Known → NameKind → Identifier → List UseOf
own_use k s n = use_as s true n (an_entity (named k.home n.text))

abbrev mutual
  pub type_uses : Known → List Identifier → TypeTree → List UseOf
  type_uses k vs (variable_type n) = use_as TypeVariable false n (parameter_sense n.text vs)
  type_uses k vs (constructor_type n ts) = use_as TypeConstructor false n (scope_sense k Types n) ++ types_uses k vs ts
  type_uses k vs (function_type a b) = type_uses k vs a ++ type_uses k vs b
  type_uses k vs (tuple_type ts) = types_uses k vs ts
  type_uses k vs (list_type t) = type_uses k vs t
  type_uses k vs unit_type = []

  pub types_uses : Known → List Identifier → TypeTrees → List UseOf
  types_uses k vs no_types = []
  types_uses k vs (more_types t ts) = type_uses k vs t ++ types_uses k vs ts

abbrev pub declared_constructor_uses : Known → List Identifier → DataConstructor → List UseOf
declared_constructor_uses k vs (data_constructor n ts) = own_use k Constructor n ++ types_uses k vs ts

abbrev pub declared_constructors_uses : Known → List Identifier → DataConstructors → List UseOf
declared_constructors_uses k vs no_constructors = []
declared_constructors_uses k vs (more_constructors c cs) = declared_constructor_uses k vs c ++ declared_constructors_uses k vs cs

abbrev mutual
  pub pattern_uses : Known → Home → Pattern → List UseOf
  pattern_uses k h (variable_pattern n) = binder_use k h true n
  pattern_uses k h (bound_pattern n p) = binder_use k h true n ++ pattern_uses k h p
  pattern_uses k h (constructor_pattern n ps) = constructor_use k n ++ patterns_uses k h ps
  pattern_uses k h (literal_pattern l) = []
  pattern_uses k h wildcard_pattern = []
  pattern_uses k h (tuple_pattern ps) = patterns_uses k h ps
  pattern_uses k h (list_pattern ps) = patterns_uses k h ps
  pattern_uses k h (lazy_pattern p) = pattern_uses k h p

  pub patterns_uses : Known → Home → Patterns → List UseOf
  patterns_uses k h no_patterns = []
  patterns_uses k h (more_patterns p ps) = pattern_uses k h p ++ patterns_uses k h ps

abbrev mutual
  pub expression_uses : Known → Around → Expression → List UseOf
  expression_uses k xs (variable_expression n) = use_as Variable false n (variable_sense k xs n)
  expression_uses k xs (constructor_expression n) = constructor_use k n
  expression_uses k xs (literal_expression l) = []
  expression_uses k xs (application f e) = expression_uses k xs f ++ expression_uses k xs e
  expression_uses k xs (lambda ps e) = patterns_uses k (local_to (patterns_variables ps)) ps ++ expression_uses k (patterns_variables ps ++ xs) e
  expression_uses k xs (let_expression ds e) = declarations_uses k (bound_names ds ++ xs) (local_to (bound_names ds)) ds ++ expression_uses k (bound_names ds ++ xs) e
  expression_uses k xs (if_expression a b c) = expression_uses k xs a ++ (expression_uses k xs b ++ expression_uses k xs c)
  expression_uses k xs (case_expression e bs) = expression_uses k xs e ++ alternatives_uses k xs bs
  expression_uses k xs (tuple_expression es) = expressions_uses k xs es
  expression_uses k xs (list_expression es) = expressions_uses k xs es
  expression_uses k xs (typed_expression e t) = expression_uses k xs e ++ type_uses k (type_variables t) t

  pub expressions_uses : Known → Around → Expressions → List UseOf
  expressions_uses k xs no_expressions = []
  expressions_uses k xs (more_expressions e es) = expression_uses k xs e ++ expressions_uses k xs es

  pub alternatives_uses : Known → Around → Alternatives → List UseOf
  alternatives_uses k xs no_alternatives = []
  alternatives_uses k xs (more_alternatives (alternative p r) bs) =
      (pattern_uses k (local_to (pattern_variables p)) p ++ right_side_uses k (pattern_variables p ++ xs) r) ++ alternatives_uses k xs bs

  pub right_side_uses : Known → Around → RightSide → List UseOf
  right_side_uses k xs (right_side gs ds) = bodies_uses k (bound_names ds ++ xs) gs ++ declarations_uses k (bound_names ds ++ xs) (local_to (bound_names ds)) ds

  pub bodies_uses : Known → Around → Bodies → List UseOf
  bodies_uses k xs no_bodies = []
  bodies_uses k xs (plain_body e gs) = expression_uses k xs e ++ bodies_uses k xs gs
  bodies_uses k xs (guarded_body g e gs) = (expression_uses k xs g ++ expression_uses k xs e) ++ bodies_uses k xs gs

  pub declarations_uses : Known → Around → Home → Declarations → List UseOf
  declarations_uses k xs h no_declarations = []
  declarations_uses k xs h (more_declarations d ds) = declaration_uses k xs h d ++ declarations_uses k xs h ds

  pub declaration_uses : Known → Around → Home → Declaration → List UseOf
  declaration_uses k xs h (data_declaration n ps cs) = own_use k TypeConstructor n ++ (parameter_uses ps ps ++ declared_constructors_uses k ps cs)
  declaration_uses k xs h (newtype_declaration n ps c) = own_use k TypeConstructor n ++ (parameter_uses ps ps ++ declared_constructor_uses k ps c)
  declaration_uses k xs h (synonym_declaration n ps t) = own_use k TypeConstructor n ++ (parameter_uses ps ps ++ type_uses k ps t)
  declaration_uses k xs h (signature ns t) = signed_uses k h ns ++ type_uses k (type_variables t) t
  declaration_uses k xs h (clause n ps r) = binder_use k h true n ++ (patterns_uses k (local_to (patterns_variables ps)) ps ++ right_side_uses k (patterns_variables ps ++ xs) r)
  declaration_uses k xs h (pattern_binding line column p r) = pattern_uses k h p ++ right_side_uses k xs r
