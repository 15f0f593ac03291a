use Rattle.std.proofs.Common.{rules, append_assoc}
use Rattle.hm_messages.proofs.heading.follows_title.Goals as goal

pub returns : goal.returns
returns c = simp append_assoc (search rules)
