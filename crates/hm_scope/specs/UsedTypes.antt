-- The type constructors that occur in a tree, in order. No public clause names these.
use Rattle.std.specs.Prelude.{List, [], ◌∷◌, ◌++◌}
use Rattle.hm_syntax.specs.Names.{Identifier}
use Rattle.hm_syntax.specs.Trees.{DataConstructor, data_constructor, DataConstructors, no_constructors, more_constructors, Expression, variable_expression, constructor_expression, literal_expression, application, lambda, let_expression, if_expression, case_expression, tuple_expression, list_expression, typed_expression, Expressions, no_expressions, more_expressions, Declaration, data_declaration, newtype_declaration, synonym_declaration, signature, clause, pattern_binding, Declarations, no_declarations, more_declarations, RightSide, right_side, Bodies, no_bodies, plain_body, guarded_body, Alternative, alternative, Alternatives, no_alternatives, more_alternatives}
use Rattle.hm_names.specs.Variables.{constructors_in, constructors_in_all}

abbrev pub constructor_types : DataConstructor → List Identifier
constructor_types (data_constructor n ts) = constructors_in_all ts

abbrev pub constructors_types : DataConstructors → List Identifier
constructors_types no_constructors = []
constructors_types (more_constructors c cs) = constructor_types c ++ constructors_types cs

abbrev mutual
  pub expression_types : Expression → List Identifier
  expression_types (variable_expression n) = []
  expression_types (constructor_expression n) = []
  expression_types (literal_expression l) = []
  expression_types (application f e) = expression_types f ++ expression_types e
  expression_types (lambda ps e) = expression_types e
  expression_types (let_expression ds e) = declarations_types ds ++ expression_types e
  expression_types (if_expression a b c) = expression_types a ++ (expression_types b ++ expression_types c)
  expression_types (case_expression e bs) = expression_types e ++ alternatives_types bs
  expression_types (tuple_expression es) = expressions_types es
  expression_types (list_expression es) = expressions_types es
  expression_types (typed_expression e t) = expression_types e ++ constructors_in t

  pub expressions_types : Expressions → List Identifier
  expressions_types no_expressions = []
  expressions_types (more_expressions e es) = expression_types e ++ expressions_types es

  pub alternative_types : Alternative → List Identifier
  alternative_types (alternative p r) = right_side_types r

  pub alternatives_types : Alternatives → List Identifier
  alternatives_types no_alternatives = []
  alternatives_types (more_alternatives a bs) = alternative_types a ++ alternatives_types bs

  pub right_side_types : RightSide → List Identifier
  right_side_types (right_side gs ds) = bodies_types gs ++ declarations_types ds

  pub bodies_types : Bodies → List Identifier
  bodies_types no_bodies = []
  bodies_types (plain_body e gs) = expression_types e ++ bodies_types gs
  bodies_types (guarded_body g e gs) = expression_types g ++ (expression_types e ++ bodies_types gs)

  pub declarations_types : Declarations → List Identifier
  declarations_types no_declarations = []
  declarations_types (more_declarations d ds) = declaration_types d ++ declarations_types ds

  pub declaration_types : Declaration → List Identifier
  declaration_types (data_declaration n ps cs) = constructors_types cs
  declaration_types (newtype_declaration n ps c) = constructor_types c
  declaration_types (synonym_declaration n ps t) = constructors_in t
  declaration_types (signature ns t) = constructors_in t
  declaration_types (clause n ps r) = right_side_types r
  declaration_types (pattern_binding line column p r) = right_side_types r

-- those in a declaration, unless that is of a synonym
abbrev pub types_outside : Declaration → List Identifier
types_outside (data_declaration n ps cs) = constructors_types cs
types_outside (newtype_declaration n ps c) = constructor_types c
types_outside (synonym_declaration n ps t) = []
types_outside (signature ns t) = constructors_in t
types_outside (clause n ps r) = right_side_types r
types_outside (pattern_binding line column p r) = right_side_types r

abbrev pub all_types_outside : List Declaration → List Identifier
all_types_outside [] = []
all_types_outside (d ∷ ds) = types_outside d ++ all_types_outside ds
