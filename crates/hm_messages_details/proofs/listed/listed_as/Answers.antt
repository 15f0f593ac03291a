use Rattle.hm_messages_details.specs.Listed.{a_type, a_value}
use Rattle.hm_messages_details.proofs.listed.listed_as.Goals as goal

pub returns-then-is_at : goal.returns-then-is_at
returns-then-is_at c = rw c.in-Con.is (a_type (c.is_at-in-Con.ensures c.if-is_at.true))

pub returns-else-not-is_at : goal.returns-else-not-is_at
returns-else-not-is_at c = rw c.in-Var.is (a_value (c.is_at.ensures c.if-not-is_at.false))
