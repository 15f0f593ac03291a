use Rattle.std.proofs.Common.{◌≡◌, drop}
use Rattle.hm_syntax.specs.Lists.{patterns}
use Rattle.hm_syntax.specs.Sizes.{pattern_size, patterns_size}
use Rattle.hm_names.specs.Variables.{patterns_variables}
use Rattle.hm_infer.specs.Told.{leading}
use Rattle.hm_infer.proofs.telling.+first_variables.Given as goal

abbrev pub decreases-first_variable : goal.decreases-first_variable
decreases-first_variable l = pattern_size l.pat.now

abbrev pub decreases-first_variable_among : goal.decreases-first_variable_among
decreases-first_variable_among l = patterns_size (patterns l.row.now)

abbrev pub invariant-first_variable_among-row : goal.invariant-first_variable_among-row
invariant-first_variable_among-row l = leading (patterns_variables (patterns (drop l.pat-index l.row))) ≡ leading (patterns_variables (patterns l.row))
