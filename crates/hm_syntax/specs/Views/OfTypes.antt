-- The models of types.
use Rattle.hm_syntax.specs.Trees.{TypeTree, variable_type, constructor_type, function_type, tuple_type, list_type, unit_type}
use Rattle.hm_syntax.specs.Lists.{types}
use Rattle.hm_syntax.specs.declared.ast.TypeKind.{TypeKind}
use Rattle.hm_syntax.specs.declared.ast.TypeKind.TheVariants.{Var, Con, Arrow, Tuple, List, Unit as UnitType}

abbrev pub type_of : TypeKind → TypeTree
type_of (Var n) = variable_type n
type_of (Con n ts) = constructor_type n (types ts.items)
type_of (Arrow a b) = function_type a.value b.value
type_of (Tuple ts) = tuple_type (types ts.items)
type_of (List t) = list_type t.value
type_of UnitType = unit_type
