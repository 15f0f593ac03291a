use Rattle.std.proofs.Common.{◌≡◌, take, length}
use Rattle.hm_syntax.specs.Lists.{patterns}
use Rattle.hm_syntax.specs.Sizes.{pattern_size, patterns_size}
use Rattle.hm_syntax_equality.proofs.patterns.+pats.Given as goal

abbrev pub decreases-is_same_pattern : goal.decreases-is_same_pattern
decreases-is_same_pattern l = pattern_size l.pat.now

abbrev pub decreases-are_same_patterns : goal.decreases-are_same_patterns
decreases-are_same_patterns l = patterns_size (patterns l.lefts.now)

abbrev pub invariant-are_same_patterns-row : goal.invariant-are_same_patterns-row
invariant-are_same_patterns-row l = record {
  as_many : length l.lefts ≡ length l.rights;
  same : take l.i l.lefts ≡ take l.i l.rights;
}
