use Rattle.std.proofs.Common.{inr}
use Rattle.hm_build_messages.proofs.expected.module_notes.Goals as goal

pub returns : goal.returns
returns c = inr (record { count = c.min-count.result; stated = c.in_ok-notes_of.ensures })
