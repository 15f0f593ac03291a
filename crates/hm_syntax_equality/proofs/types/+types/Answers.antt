use Rattle.std.proofs.Common.{arith}
use Rattle.hm_syntax_equality.proofs.SameRows.{types_as_long}
use Rattle.hm_syntax_equality.proofs.types.+types.Goals as goal

pub are_same_types-returns-then-lefts-rights : goal.are_same_types-returns-then-lefts-rights
are_same_types-returns-then-lefts-rights t c = (λ e. absurd (cc), λ e. absurd (omega (arith, types_as_long _ _ e)))
