use Rattle.std.proofs.Common.{rules, append_assoc}
use Rattle.hm_messages_titles.proofs.titles.first_text.Goals as goal

pub returns-in-Some : goal.returns-in-Some
returns-in-Some c = rw c.in-Some.is (simp append_assoc (search rules))
