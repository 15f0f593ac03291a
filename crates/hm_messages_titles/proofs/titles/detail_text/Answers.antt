use Rattle.std.proofs.Common.{rules, append_assoc}
use Rattle.hm_messages_titles.proofs.titles.detail_text.Goals as goal

pub returns-in-Arguments : goal.returns-in-Arguments
returns-in-Arguments c = rw c.in-Arguments.is (simp append_assoc (search rules))

pub returns-in-Patterns : goal.returns-in-Patterns
returns-in-Patterns c = rw c.in-Patterns.is (simp append_assoc (search rules))
