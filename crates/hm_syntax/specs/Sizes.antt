-- The number of nodes of a tree.
use Rattle.std.specs.Prelude.{ℕ, ◌+◌}
use Rattle.hm_syntax.specs.Trees.{TypeTree, variable_type, constructor_type, function_type, tuple_type, list_type, unit_type, TypeTrees, no_types, more_types, Pattern, variable_pattern, bound_pattern, constructor_pattern, literal_pattern, wildcard_pattern, tuple_pattern, list_pattern, lazy_pattern, Patterns, no_patterns, more_patterns, Expression, variable_expression, constructor_expression, literal_expression, application, lambda, let_expression, if_expression, case_expression, tuple_expression, list_expression, typed_expression, Expressions, no_expressions, more_expressions, Declaration, data_declaration, newtype_declaration, synonym_declaration, signature, clause, pattern_binding, Declarations, no_declarations, more_declarations, RightSide, right_side, Bodies, no_bodies, plain_body, guarded_body, Alternative, alternative, Alternatives, no_alternatives, more_alternatives}

abbrev mutual
  pub type_size : TypeTree → ℕ
  type_size (variable_type n) = 1
  type_size (constructor_type n ts) = 1 + types_size ts
  type_size (function_type a b) = 1 + type_size a + type_size b
  type_size (tuple_type ts) = 1 + types_size ts
  type_size (list_type t) = 1 + type_size t
  type_size unit_type = 1

  pub types_size : TypeTrees → ℕ
  types_size no_types = 0
  types_size (more_types t ts) = 1 + type_size t + types_size ts

abbrev mutual
  pub pattern_size : Pattern → ℕ
  pattern_size (variable_pattern n) = 1
  pattern_size (bound_pattern n p) = 1 + pattern_size p
  pattern_size (constructor_pattern n ps) = 1 + patterns_size ps
  pattern_size (literal_pattern l) = 1
  pattern_size wildcard_pattern = 1
  pattern_size (tuple_pattern ps) = 1 + patterns_size ps
  pattern_size (list_pattern ps) = 1 + patterns_size ps
  pattern_size (lazy_pattern p) = 1 + pattern_size p

  pub patterns_size : Patterns → ℕ
  patterns_size no_patterns = 0
  patterns_size (more_patterns p ps) = 1 + pattern_size p + patterns_size ps

abbrev mutual
  pub expression_size : Expression → ℕ
  expression_size (variable_expression n) = 1
  expression_size (constructor_expression n) = 1
  expression_size (literal_expression l) = 1
  expression_size (application f a) = 1 + expression_size f + expression_size a
  expression_size (lambda ps e) = 1 + expression_size e
  expression_size (let_expression ds e) = 1 + declarations_size ds + expression_size e
  expression_size (if_expression a b c) = 1 + expression_size a + expression_size b + expression_size c
  expression_size (case_expression e as_) = 1 + expression_size e + alternatives_size as_
  expression_size (tuple_expression es) = 1 + expressions_size es
  expression_size (list_expression es) = 1 + expressions_size es
  expression_size (typed_expression e t) = 1 + expression_size e

  pub expressions_size : Expressions → ℕ
  expressions_size no_expressions = 0
  expressions_size (more_expressions e es) = 1 + expression_size e + expressions_size es

  pub declaration_size : Declaration → ℕ
  declaration_size (data_declaration n ps cs) = 1
  declaration_size (newtype_declaration n ps c) = 1
  declaration_size (synonym_declaration n ps t) = 1
  declaration_size (signature ns t) = 1
  declaration_size (clause n ps r) = 1 + right_side_size r
  declaration_size (pattern_binding line column p r) = 1 + right_side_size r

  pub declarations_size : Declarations → ℕ
  declarations_size no_declarations = 0
  declarations_size (more_declarations d ds) = 1 + declaration_size d + declarations_size ds

  pub right_side_size : RightSide → ℕ
  right_side_size (right_side gs ds) = 1 + bodies_size gs + declarations_size ds

  pub bodies_size : Bodies → ℕ
  bodies_size no_bodies = 0
  bodies_size (plain_body e gs) = 1 + expression_size e + bodies_size gs
  bodies_size (guarded_body g e gs) = 1 + expression_size g + expression_size e + bodies_size gs

  pub alternative_size : Alternative → ℕ
  alternative_size (alternative p r) = 1 + right_side_size r

  pub alternatives_size : Alternatives → ℕ
  alternatives_size no_alternatives = 0
  alternatives_size (more_alternatives a as_) = 1 + alternative_size a + alternatives_size as_
