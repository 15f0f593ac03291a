use Rattle.std.proofs.Common.{◌≡◌, ◌++◌, drop, map}
use Rattle.hm_syntax.specs.Lists.{patterns}
use Rattle.hm_syntax.specs.Sizes.{pattern_size, patterns_size}
use Rattle.hm_messages_details.specs.Parts.{part_of, patterns_parts}
use Rattle.hm_messages_details.proofs.parts.+patterns.Given as goal

abbrev pub decreases-add_pattern : goal.decreases-add_pattern
decreases-add_pattern l = pattern_size l.pat.now

abbrev pub decreases-add_patterns : goal.decreases-add_patterns
decreases-add_patterns l = patterns_size (patterns l.row.now)

abbrev pub invariant-add_patterns-row : goal.invariant-add_patterns-row
invariant-add_patterns-row l = map part_of l.out.items ++ patterns_parts (patterns (drop l.pat-index l.row)) ≡ map part_of l.fn.out.items ++ patterns_parts (patterns l.row)
