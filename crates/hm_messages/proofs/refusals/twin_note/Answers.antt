use Rattle.std.proofs.Common.{rules, Some}
use Rattle.hm_messages.proofs.refusals.twin_note.Goals as goal

pub returns : goal.returns
returns c = (Some c.in-Some.here.now, c.in-Some.ensures, search rules)
