-- The models of patterns.
use Rattle.hm_syntax.specs.Trees.{Pattern, variable_pattern, bound_pattern, constructor_pattern, literal_pattern, wildcard_pattern, tuple_pattern, list_pattern, lazy_pattern}
use Rattle.hm_syntax.specs.Lists.{patterns}
use Rattle.hm_syntax.specs.declared.ast.PatKind.{PatKind}
use Rattle.hm_syntax.specs.declared.ast.PatKind.TheVariants.{Var, Bound, Con, Literal, Wild, Tuple, List, Lazy}

abbrev pub pattern_of : PatKind → Pattern
pattern_of (Var n) = variable_pattern n
pattern_of (Bound n p) = bound_pattern n p.value
pattern_of (Con n ps) = constructor_pattern n (patterns ps.items)
pattern_of (Literal l) = literal_pattern l
pattern_of Wild = wildcard_pattern
pattern_of (Tuple ps) = tuple_pattern (patterns ps.items)
pattern_of (List ps) = list_pattern (patterns ps.items)
pattern_of (Lazy p) = lazy_pattern p.value
