use Rattle.std.proofs.Common.{rules, append_assoc}
use Rattle.hm_messages.proofs.heading.pair_title.Goals as goal

pub returns-in-Expressions : goal.returns-in-Expressions
returns-in-Expressions c = rw c.in-Expressions.is (simp append_assoc (search rules))

pub returns-in-ExpressionBesidePattern : goal.returns-in-ExpressionBesidePattern
returns-in-ExpressionBesidePattern c = rw c.in-ExpressionBesidePattern.is (simp append_assoc (search rules))

pub returns-in-PatternBesideExpression : goal.returns-in-PatternBesideExpression
returns-in-PatternBesideExpression c = rw c.in-PatternBesideExpression.is (simp append_assoc (search rules))

pub returns-in-Patterns : goal.returns-in-Patterns
returns-in-Patterns c = rw c.in-Patterns.is (simp append_assoc (search rules))
