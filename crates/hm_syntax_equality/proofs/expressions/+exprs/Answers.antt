use Rattle.std.proofs.Common.{arith}
use Rattle.hm_syntax_equality.proofs.SameRows.{expressions_as_long, alternatives_as_long, declarations_as_long, bodies_as_long}
use Rattle.hm_syntax_equality.proofs.expressions.+exprs.Goals as goal

pub are_same_exprs-returns-then-lefts-rights : goal.are_same_exprs-returns-then-lefts-rights
are_same_exprs-returns-then-lefts-rights t c = (λ e. absurd (cc), λ e. absurd (omega (arith, expressions_as_long _ _ e)))

pub are_same_alts-returns-then-lefts-rights : goal.are_same_alts-returns-then-lefts-rights
are_same_alts-returns-then-lefts-rights t c = (λ e. absurd (cc), λ e. absurd (omega (arith, alternatives_as_long _ _ e)))

pub are_same_parts-returns-then-lefts-rights : goal.are_same_parts-returns-then-lefts-rights
are_same_parts-returns-then-lefts-rights t c = (λ e. absurd (cc), λ e. absurd (omega (arith, bodies_as_long _ _ e)))

pub are_same_decls-returns-then-lefts-rights : goal.are_same_decls-returns-then-lefts-rights
are_same_decls-returns-then-lefts-rights t c = (λ e. absurd (cc), λ e. absurd (omega (arith, declarations_as_long _ _ e)))
