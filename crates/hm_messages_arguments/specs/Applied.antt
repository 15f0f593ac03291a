-- The names that the expressions of a module apply, each with the number of its arguments (Report 3.3).
use Rattle.std.specs.Prelude.{ℕ, ◌+◌, List, [], ◌∷◌, ◌++◌, Option, Some, None}
use Rattle.hm_syntax.specs.Names.{Identifier}
use Rattle.hm_syntax.specs.Trees.{Expression, variable_expression, constructor_expression, literal_expression, application, lambda, let_expression, if_expression, case_expression, tuple_expression, list_expression, typed_expression, Expressions, no_expressions, more_expressions, Declaration, data_declaration, newtype_declaration, synonym_declaration, signature, clause, pattern_binding, Declarations, no_declarations, more_declarations, RightSide, right_side, Bodies, no_bodies, plain_body, guarded_body, Alternative, alternative, Alternatives, no_alternatives, more_alternatives}
use Rattle.hm_syntax.specs.Lists.{declarations}
use Rattle.hm_syntax.specs.declared.ast.Module.{Module}
use Rattle.hm_messages_arguments.specs.declared.applied.Applied.{Applied as LentApplied}

-- a variable or a constructor of an expression, and how many arguments it is applied to
pub record Applied : Type 0 where
  pub name : Identifier
  pub arguments : ℕ

-- applied_to n e: the names of e with their arguments, if e itself is applied to n arguments. The others are similar, of what isn't applied
abbrev mutual
  pub applied_to : ℕ → Expression → List Applied
  applied_to n (variable_expression x) = record { name = x; arguments = n } ∷ []
  applied_to n (constructor_expression x) = record { name = x; arguments = n } ∷ []
  applied_to n (literal_expression l) = []
  applied_to n (application f e) = applied_to (n + 1) f ++ applied_to 0 e
  applied_to n (lambda ps e) = applied_to 0 e
  applied_to n (let_expression ds e) = declarations_applied ds ++ applied_to 0 e
  applied_to n (if_expression a b c) = applied_to 0 a ++ (applied_to 0 b ++ applied_to 0 c)
  applied_to n (case_expression e bs) = applied_to 0 e ++ alternatives_applied bs
  applied_to n (tuple_expression es) = expressions_applied es
  applied_to n (list_expression es) = expressions_applied es
  applied_to n (typed_expression e t) = applied_to 0 e

  pub expressions_applied : Expressions → List Applied
  expressions_applied no_expressions = []
  expressions_applied (more_expressions e es) = applied_to 0 e ++ expressions_applied es

  pub alternatives_applied : Alternatives → List Applied
  alternatives_applied no_alternatives = []
  alternatives_applied (more_alternatives a bs) = alternative_applied a ++ alternatives_applied bs

  pub alternative_applied : Alternative → List Applied
  alternative_applied (alternative p r) = right_side_applied r

  pub right_side_applied : RightSide → List Applied
  right_side_applied (right_side gs ds) = bodies_applied gs ++ declarations_applied ds

  pub bodies_applied : Bodies → List Applied
  bodies_applied no_bodies = []
  bodies_applied (plain_body e gs) = applied_to 0 e ++ bodies_applied gs
  bodies_applied (guarded_body g e gs) = applied_to 0 g ++ (applied_to 0 e ++ bodies_applied gs)

  pub declarations_applied : Declarations → List Applied
  declarations_applied no_declarations = []
  declarations_applied (more_declarations d ds) = declaration_applied d ++ declarations_applied ds

  pub declaration_applied : Declaration → List Applied
  declaration_applied (data_declaration n ps cs) = []
  declaration_applied (newtype_declaration n ps c) = []
  declaration_applied (synonym_declaration n ps t) = []
  declaration_applied (signature ns t) = []
  declaration_applied (clause n ps r) = right_side_applied r
  declaration_applied (pattern_binding line column p r) = right_side_applied r

abbrev pub module_applied : Module → List Applied
module_applied m = declarations_applied (declarations m.decls)

-- the same of rows as the code has them

abbrev pub list_applied : List Declaration → List Applied
list_applied ds = declarations_applied (declarations ds)

abbrev pub guard_applied : Option Expression → List Applied
guard_applied None = []
guard_applied (Some g) = applied_to 0 g

abbrev pub bodies_of_applied : List (Option Expression × Expression) → List Applied
bodies_of_applied [] = []
bodies_of_applied (p ∷ ps) = (guard_applied p.0 ++ applied_to 0 p.1) ++ bodies_of_applied ps

abbrev pub applied_of : LentApplied → Applied
applied_of a = record { name = a.name.now; arguments = a.arguments }
