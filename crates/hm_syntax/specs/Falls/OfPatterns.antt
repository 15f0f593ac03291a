-- A child of a pattern is smaller than its parent.
use Rattle.std.specs.Prelude.{List, [], ◌∷◌, ◌+◌, ◌≤◌, max}
use Rattle.std.proofs.Common.{arith}
use denote.Param.Weighed.{most}
use Rattle.hm_syntax.specs.Trees.{Pattern}
use Rattle.hm_syntax.specs.Sizes.{pattern_size, patterns_size}
use Rattle.hm_syntax.specs.Lists.{patterns}
use Rattle.hm_syntax.specs.Views.OfPatterns.{pattern_of}
use Rattle.hm_syntax.specs.declared.ast.PatKind.{PatKind}
use Rattle.hm_syntax.specs.declared.ast.PatKind.TheVariants.{Var, Bound, Con, Literal, Wild, Tuple, List as ListOf, Lazy}
use Rattle.hm_syntax.specs.declared.ast.Pat.TheDeep.{deep-PatKind}

pub patterns_fall : (ps : List Pattern) → most (λ k. pattern_size k + 1) ps ≤ patterns_size (patterns ps)
patterns_fall [] = omega arith
patterns_fall (p ∷ ps) = omega (arith, patterns_fall ps)

pub pattern_smaller : (k : PatKind) → max (deep-PatKind k) 0 ≤ pattern_size (pattern_of k)
pattern_smaller (Var n) = omega arith
pattern_smaller (Bound n p) = omega arith
pattern_smaller (Con n ps) = omega (arith, patterns_fall ps.items)
pattern_smaller (Literal l) = omega arith
pattern_smaller Wild = omega arith
pattern_smaller (Tuple ps) = omega (arith, patterns_fall ps.items)
pattern_smaller (ListOf ps) = omega (arith, patterns_fall ps.items)
pattern_smaller (Lazy p) = omega arith
