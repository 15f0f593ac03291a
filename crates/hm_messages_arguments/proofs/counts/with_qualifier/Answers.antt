use Rattle.std.proofs.Common.{rules, append_assoc}
use Rattle.hm_messages_arguments.proofs.counts.with_qualifier.Goals as goal

pub returns : goal.returns
returns c = simp append_assoc (search rules)
