use Rattle.std.proofs.Common.{◌≡◌, ◌++◌, Some, map, drop}
use Rattle.hm_syntax.specs.Sizes.{pattern_size, patterns_size}
use Rattle.hm_syntax.specs.Lists.{patterns}
use Rattle.hm_infer_dependencies.specs.References.{patterns_variables}
use Rattle.hm_infer_dependencies.proofs.nodes.+variables.Given as goal

abbrev pub decreases-add_variables : goal.decreases-add_variables
decreases-add_variables l = pattern_size l.pat.now

abbrev pub decreases-add_all_variables : goal.decreases-add_all_variables
decreases-add_all_variables l = patterns_size (patterns l.pats.now)

abbrev pub invariant-add_all_variables-loop-pat : goal.invariant-add_all_variables-loop-pat
invariant-add_all_variables-loop-pat l = (l.numbers ++ map Some (patterns_variables (patterns (drop l.pat-index l.pats)))) ≡ (l.initial.numbers ++ map Some (patterns_variables (patterns l.pats)))
