use Rattle.std.proofs.Common.{arith}
use Rattle.hm_syntax_equality.proofs.SameRows.{patterns_as_long}
use Rattle.hm_syntax_equality.proofs.patterns.+pats.Goals as goal

pub are_same_patterns-returns-then-lefts-rights : goal.are_same_patterns-returns-then-lefts-rights
are_same_patterns-returns-then-lefts-rights t c = (λ e. absurd (cc), λ e. absurd (omega (arith, patterns_as_long _ _ e)))
