-- A child of an expression, a declaration or an alternative is smaller than its parent.
use Rattle.std.specs.Prelude.{ℕ, List, [], ◌∷◌, ◌+◌, ◌≤◌, max, Option, None, Some}
use Rattle.std.proofs.Common.{arith}
use denote.Param.Weighed.{most}
use Rattle.hm_syntax.specs.Trees.{Expression, Declaration, Alternative}
use Rattle.hm_syntax.specs.Sizes.{expression_size, expressions_size, declaration_size, declarations_size, alternative_size, alternatives_size, bodies_size}
use Rattle.hm_syntax.specs.Lists.{expressions, declarations, alternatives, bodies}
use Rattle.hm_syntax.specs.Views.OfExpressions.{expression_of, declaration_of}
use Rattle.hm_syntax.specs.declared.ast.ExprKind.{ExprKind}
use Rattle.hm_syntax.specs.declared.ast.ExprKind.TheVariants.{Var, Con, Literal, Apply, Lambda, Let, If, Case, Tuple, List as ListOf, Typed}
use Rattle.hm_syntax.specs.declared.ast.DeclKind.{DeclKind}
use Rattle.hm_syntax.specs.declared.ast.DeclKind.TheVariants.{DataType, Newtype, Synonym, Signature, Clause, Pattern}
use Rattle.hm_syntax.specs.declared.ast.Alt.TheShapes.{weighed-Rhs-parts-at-3}
use Rattle.hm_syntax.specs.declared.ast.Alt.TheDeep.{deep-ExprKind, deep-DeclKind}

pub expressions_fall : (es : List Expression) → most (λ k. expression_size k + 1) es ≤ expressions_size (expressions es)
expressions_fall [] = omega arith
expressions_fall (e ∷ es) = omega (arith, expressions_fall es)

pub declarations_fall : (ds : List Declaration) → most (λ k. declaration_size k + 1) ds ≤ declarations_size (declarations ds)
declarations_fall [] = omega arith
declarations_fall (d ∷ ds) = omega (arith, declarations_fall ds)

pub alternatives_fall : (rest : List Alternative) → most (λ k. alternative_size k + 1) rest ≤ alternatives_size (alternatives rest)
alternatives_fall [] = omega arith
alternatives_fall (a ∷ rest) = omega (arith, alternatives_fall rest)

pub expression_smaller : (k : ExprKind) → max (deep-ExprKind k) 0 ≤ expression_size (expression_of k)
expression_smaller (Var n) = omega arith
expression_smaller (Con n) = omega arith
expression_smaller (Literal l) = omega arith
expression_smaller (Apply f a) = omega arith
expression_smaller (Lambda ps e) = omega arith
expression_smaller (Let ds e) = omega (arith, declarations_fall ds.items)
expression_smaller (If a b c) = omega arith
expression_smaller (Case e rest) = omega (arith, alternatives_fall rest.items)
expression_smaller (Tuple es) = omega (arith, expressions_fall es.items)
expression_smaller (ListOf es) = omega (arith, expressions_fall es.items)
expression_smaller (Typed e t) = omega arith

pub declaration_smaller : (k : DeclKind) → max (deep-DeclKind k) 0 ≤ declaration_size (declaration_of k)
declaration_smaller (DataType n ps cs) = omega arith
declaration_smaller (Newtype n ps c) = omega arith
declaration_smaller (Synonym n ps t) = omega arith
declaration_smaller (Signature ns t) = omega arith
declaration_smaller (Clause n ps r) = omega arith
declaration_smaller (Pattern place p r) = omega arith

pub bodies_fall : (ps : List (Option Expression × Expression)) → most ((weighed-Rhs-parts-at-3).weight Expression (λ y. expression_size y + 1)) ps ≤ bodies_size (bodies ps)
bodies_fall [] = omega arith
bodies_fall ((None, e) ∷ ps) = omega (arith, bodies_fall ps)
bodies_fall ((Some g, e) ∷ ps) = omega (arith, bodies_fall ps)

pub both_fall : (x y m n : ℕ) → x ≤ m → y ≤ n → max x (max y 0) ≤ 1 + m + n
both_fall x y m n p q = omega arith
