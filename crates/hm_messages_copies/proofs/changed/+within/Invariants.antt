use Rattle.std.proofs.Common.{length}
use Rattle.hm_messages_copies.proofs.changed.+within.Given as goal

abbrev pub decreases-within : goal.decreases-within
decreases-within l = length l.definitions.now
