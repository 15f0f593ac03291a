use Rattle.std.proofs.Common.{length}
use Rattle.hm_messages_changes.proofs.layout.+hollowed.Given as goal

abbrev pub decreases-hollowed : goal.decreases-hollowed
decreases-hollowed l = length l.others.now
