use Rattle.std.proofs.Common.{◌≡◌, ◌++◌, drop}
use Rattle.hm_syntax.specs.Lists.{patterns}
use Rattle.hm_syntax.specs.Sizes.{pattern_size, patterns_size}
use Rattle.hm_names.specs.Variables.{patterns_variables}
use Rattle.hm_names.proofs.variables.+patterns.Given as goal

abbrev pub decreases-add_pattern : goal.decreases-add_pattern
decreases-add_pattern l = pattern_size l.pat.now

abbrev pub decreases-add_patterns : goal.decreases-add_patterns
decreases-add_patterns l = patterns_size (patterns l.row.now)

abbrev pub invariant-add_patterns-row : goal.invariant-add_patterns-row
invariant-add_patterns-row l = l.out ++ patterns_variables (patterns (drop l.pat-index l.row)) ≡ l.fn.out ++ patterns_variables (patterns l.row)
