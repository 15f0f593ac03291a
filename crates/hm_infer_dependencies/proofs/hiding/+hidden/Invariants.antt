use Rattle.std.proofs.Common.{drop}
use Rattle.hm_syntax.specs.Sizes.{pattern_size, patterns_size}
use Rattle.hm_syntax.specs.Lists.{patterns}
use Rattle.hm_infer_dependencies.specs.References.{patterns_variables}
use Rattle.hm_infer_dependencies.proofs.Walking.{StillHides}
use Rattle.hm_infer_dependencies.proofs.hiding.+hidden.Given as goal

abbrev pub decreases-hide_pattern : goal.decreases-hide_pattern
decreases-hide_pattern l = pattern_size l.pat.now

abbrev pub decreases-hide_patterns : goal.decreases-hide_patterns
decreases-hide_patterns l = patterns_size (patterns l.pats.now)

abbrev pub invariant-hide_patterns-loop-pat : goal.invariant-hide_patterns-loop-pat
invariant-hide_patterns-loop-pat l = StillHides l.numbers (patterns_variables (patterns (drop l.pat-index l.pats))) (patterns_variables (patterns l.pats)) l.initial.shown l.shown l.initial.noted.items l.noted.items
