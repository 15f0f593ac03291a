use Rattle.std.proofs.Common.{rules, append_assoc}
use Rattle.hm_messages.proofs.heading.mended_text.Goals as goal

pub returns : goal.returns
returns c = simp append_assoc (search rules)
