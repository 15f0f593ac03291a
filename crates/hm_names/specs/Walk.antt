-- The nodes of a tree, and the variables that are bound locally at each (Report 3 and 4.4: the scopes of patterns, let and where).
use Rattle.std.specs.Prelude.{ℕ, List, [], ◌++◌, ◌⊎◌}
use Rattle.hm_syntax.specs.Names.{Identifier}
use Rattle.hm_syntax.specs.Trees.{TypeTree, variable_type, constructor_type, function_type, tuple_type, list_type, unit_type, TypeTrees, no_types, more_types, DataConstructor, data_constructor, DataConstructors, no_constructors, more_constructors, Pattern, variable_pattern, bound_pattern, constructor_pattern, literal_pattern, wildcard_pattern, tuple_pattern, list_pattern, lazy_pattern, Patterns, no_patterns, more_patterns, Expression, variable_expression, constructor_expression, literal_expression, application, lambda, let_expression, if_expression, case_expression, tuple_expression, list_expression, typed_expression, Expressions, no_expressions, more_expressions, Declaration, data_declaration, newtype_declaration, synonym_declaration, signature, clause, pattern_binding, Declarations, no_declarations, more_declarations, RightSide, right_side, Bodies, no_bodies, plain_body, guarded_body, alternative, Alternatives, no_alternatives, more_alternatives}
use Rattle.hm_syntax.specs.Lists.{declarations}
use Rattle.hm_syntax.specs.declared.ast.Module.{Module}
use Rattle.hm_names.specs.Variables.{texts, patterns_variables, type_variables, constructor_variables, constructors_variables, bound_names}

-- the local variables at a place, the innermost first
abbrev pub Locals : Type 0
Locals = List (List ℕ)

abbrev pub with_patterns : Patterns → Locals → Locals
with_patterns ps xs = texts (patterns_variables ps) ++ xs

abbrev pub with_list : Declarations → Locals → Locals
with_list ds xs = texts (bound_names ds) ++ xs

-- the nodes that rules are about: expressions, patterns and types; the patterns of one clause, lambda or alternative, or that of a pattern binding;
-- the parameters of a type's declaration, with the type variables that it uses; declaration lists
pub data Node : Type 0 where
  at_expression : Expression → Node
  at_pattern : Pattern → Node
  at_type : TypeTree → Node
  at_head : Patterns → Node
  at_parameters : List Identifier → List Identifier → Node
  at_list : Declarations → Node

-- a statement about a node and the local variables there
abbrev pub Rule : Type 1
Rule = Locals → Node → Type 0

-- InType Q xs t: the rule Q holds at some node of t, if the local variables xs are bound around t. The others are similar

abbrev mutual
  pub InType : Rule → Locals → TypeTree → Type 0
  InType Q xs (variable_type n) = Q xs (at_type (variable_type n))
  InType Q xs (constructor_type n ts) = Q xs (at_type (constructor_type n ts)) ⊎ InTypes Q xs ts
  InType Q xs (function_type a b) = InType Q xs a ⊎ InType Q xs b
  InType Q xs (tuple_type ts) = InTypes Q xs ts
  InType Q xs (list_type t) = InType Q xs t
  InType Q xs unit_type = ⊥

  pub InTypes : Rule → Locals → TypeTrees → Type 0
  InTypes Q xs no_types = ⊥
  InTypes Q xs (more_types t ts) = InType Q xs t ⊎ InTypes Q xs ts

abbrev pub InConstructor : Rule → Locals → DataConstructor → Type 0
InConstructor Q xs (data_constructor n ts) = InTypes Q xs ts

abbrev pub InConstructors : Rule → Locals → DataConstructors → Type 0
InConstructors Q xs no_constructors = ⊥
InConstructors Q xs (more_constructors c cs) = InConstructor Q xs c ⊎ InConstructors Q xs cs

abbrev mutual
  pub InPattern : Rule → Locals → Pattern → Type 0
  InPattern Q xs (variable_pattern n) = ⊥
  InPattern Q xs (bound_pattern n p) = InPattern Q xs p
  InPattern Q xs (constructor_pattern n ps) = Q xs (at_pattern (constructor_pattern n ps)) ⊎ InPatterns Q xs ps
  InPattern Q xs (literal_pattern l) = ⊥
  InPattern Q xs wildcard_pattern = ⊥
  InPattern Q xs (tuple_pattern ps) = InPatterns Q xs ps
  InPattern Q xs (list_pattern ps) = InPatterns Q xs ps
  InPattern Q xs (lazy_pattern p) = InPattern Q xs p

  pub InPatterns : Rule → Locals → Patterns → Type 0
  InPatterns Q xs no_patterns = ⊥
  InPatterns Q xs (more_patterns p ps) = InPattern Q xs p ⊎ InPatterns Q xs ps

-- the patterns of one clause, lambda or alternative
abbrev pub InHead : Rule → Locals → Patterns → Type 0
InHead Q xs ps = Q xs (at_head ps) ⊎ InPatterns Q xs ps

abbrev mutual
  pub InExpression : Rule → Locals → Expression → Type 0
  InExpression Q xs (variable_expression n) = Q xs (at_expression (variable_expression n))
  InExpression Q xs (constructor_expression n) = Q xs (at_expression (constructor_expression n))
  InExpression Q xs (literal_expression l) = ⊥
  InExpression Q xs (application f e) = InExpression Q xs f ⊎ InExpression Q xs e
  InExpression Q xs (lambda ps e) = InHead Q xs ps ⊎ InExpression Q (with_patterns ps xs) e
  InExpression Q xs (let_expression ds e) = (Q (with_list ds xs) (at_list ds) ⊎ InDeclarations Q (with_list ds xs) ds) ⊎ InExpression Q (with_list ds xs) e
  InExpression Q xs (if_expression a b c) = InExpression Q xs a ⊎ (InExpression Q xs b ⊎ InExpression Q xs c)
  InExpression Q xs (case_expression e bs) = InExpression Q xs e ⊎ InAlternatives Q xs bs
  InExpression Q xs (tuple_expression es) = InExpressions Q xs es
  InExpression Q xs (list_expression es) = InExpressions Q xs es
  InExpression Q xs (typed_expression e t) = InExpression Q xs e ⊎ InType Q xs t

  pub InExpressions : Rule → Locals → Expressions → Type 0
  InExpressions Q xs no_expressions = ⊥
  InExpressions Q xs (more_expressions e es) = InExpression Q xs e ⊎ InExpressions Q xs es

  pub InAlternatives : Rule → Locals → Alternatives → Type 0
  InAlternatives Q xs no_alternatives = ⊥
  InAlternatives Q xs (more_alternatives (alternative p r) bs) =
      InHead Q xs (more_patterns p no_patterns) ⊎ (InRightSide Q (with_patterns (more_patterns p no_patterns) xs) r ⊎ InAlternatives Q xs bs)

  -- with its where, which scopes over all guards and right sides
  pub InRightSide : Rule → Locals → RightSide → Type 0
  InRightSide Q xs (right_side gs ds) = InBodies Q (with_list ds xs) gs ⊎ (Q (with_list ds xs) (at_list ds) ⊎ InDeclarations Q (with_list ds xs) ds)

  pub InBodies : Rule → Locals → Bodies → Type 0
  InBodies Q xs no_bodies = ⊥
  InBodies Q xs (plain_body e gs) = InExpression Q xs e ⊎ InBodies Q xs gs
  InBodies Q xs (guarded_body g e gs) = InExpression Q xs g ⊎ (InExpression Q xs e ⊎ InBodies Q xs gs)

  pub InDeclarations : Rule → Locals → Declarations → Type 0
  InDeclarations Q xs no_declarations = ⊥
  InDeclarations Q xs (more_declarations d ds) = InDeclaration Q xs d ⊎ InDeclarations Q xs ds

  pub InDeclaration : Rule → Locals → Declaration → Type 0
  InDeclaration Q xs (data_declaration n ps cs) = Q xs (at_parameters ps (constructors_variables cs)) ⊎ InConstructors Q xs cs
  InDeclaration Q xs (newtype_declaration n ps c) = Q xs (at_parameters ps (constructor_variables c)) ⊎ InConstructor Q xs c
  InDeclaration Q xs (synonym_declaration n ps t) = Q xs (at_parameters ps (type_variables t)) ⊎ InType Q xs t
  InDeclaration Q xs (signature ns t) = InType Q xs t
  InDeclaration Q xs (clause n ps r) = InHead Q xs ps ⊎ InRightSide Q (with_patterns ps xs) r
  InDeclaration Q xs (pattern_binding line column p r) = InHead Q xs (more_patterns p no_patterns) ⊎ InRightSide Q xs r

-- the rule holds at some node of a module with these declarations. The module is itself a declaration list, and its top-level names aren't local
abbrev pub InTop : Rule → List Declaration → Type 0
InTop Q ds = Q [] (at_list (declarations ds)) ⊎ InDeclarations Q [] (declarations ds)

abbrev pub Somewhere : Module → Rule → Type 0
Somewhere m Q = InTop Q m.decls
