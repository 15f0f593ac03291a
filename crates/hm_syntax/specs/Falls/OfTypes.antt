-- A child of a type is smaller than its parent.
use Rattle.std.specs.Prelude.{List, [], ◌∷◌, ◌+◌, ◌≤◌, max}
use Rattle.std.proofs.Common.{arith}
use denote.Param.Weighed.{most}
use Rattle.hm_syntax.specs.Trees.{TypeTree}
use Rattle.hm_syntax.specs.Sizes.{type_size, types_size}
use Rattle.hm_syntax.specs.Lists.{types}
use Rattle.hm_syntax.specs.Views.OfTypes.{type_of}
use Rattle.hm_syntax.specs.declared.ast.TypeKind.{TypeKind}
use Rattle.hm_syntax.specs.declared.ast.TypeKind.TheVariants.{Var, Con, Arrow, Tuple, List as ListOf, Unit as UnitType}
use Rattle.hm_syntax.specs.declared.ast.TypeExpr.TheDeep.{deep-TypeKind}

pub types_fall : (ts : List TypeTree) → most (λ k. type_size k + 1) ts ≤ types_size (types ts)
types_fall [] = omega arith
types_fall (t ∷ ts) = omega (arith, types_fall ts)

pub type_smaller : (k : TypeKind) → max (deep-TypeKind k) 0 ≤ type_size (type_of k)
type_smaller (Var n) = omega arith
type_smaller (Con n ts) = omega (arith, types_fall ts.items)
type_smaller (Arrow a b) = omega arith
type_smaller (Tuple ts) = omega (arith, types_fall ts.items)
type_smaller (ListOf t) = omega arith
type_smaller UnitType = omega arith
