-- The models of expressions and declarations.
use Rattle.hm_syntax.specs.Trees.{Expression, variable_expression, constructor_expression, literal_expression, application, lambda, let_expression, if_expression, case_expression, tuple_expression, list_expression, typed_expression, Declaration, data_declaration, newtype_declaration, synonym_declaration, signature, clause, pattern_binding}
use Rattle.hm_syntax.specs.Lists.{patterns, expressions, declarations, alternatives, constructors}
use Rattle.hm_syntax.specs.declared.ast.ExprKind.{ExprKind}
use Rattle.hm_syntax.specs.declared.ast.ExprKind.TheVariants.{Var, Con, Literal, Apply, Lambda, Let, If, Case, Tuple, List, Typed}
use Rattle.hm_syntax.specs.declared.ast.DeclKind.{DeclKind}
use Rattle.hm_syntax.specs.declared.ast.DeclKind.TheVariants.{DataType, Newtype, Synonym, Signature, Clause, Pattern}

abbrev pub expression_of : ExprKind → Expression
expression_of (Var n) = variable_expression n
expression_of (Con n) = constructor_expression n
expression_of (Literal l) = literal_expression l
expression_of (Apply f a) = application f.value a.value
expression_of (Lambda ps e) = lambda (patterns ps.items) e.value
expression_of (Let ds e) = let_expression (declarations ds.items) e.value
expression_of (If a b c) = if_expression a.value b.value c.value
expression_of (Case e rest) = case_expression e.value (alternatives rest.items)
expression_of (Tuple es) = tuple_expression (expressions es.items)
expression_of (List es) = list_expression (expressions es.items)
expression_of (Typed e t) = typed_expression e.value t

abbrev pub declaration_of : DeclKind → Declaration
declaration_of (DataType n ps cs) = data_declaration n ps.items (constructors cs.items)
declaration_of (Newtype n ps c) = newtype_declaration n ps.items c
declaration_of (Synonym n ps t) = synonym_declaration n ps.items t
declaration_of (Signature ns t) = signature ns.items t
declaration_of (Clause n ps r) = clause n (patterns ps.items) r
declaration_of (Pattern place p r) = pattern_binding place.line place.column p r
