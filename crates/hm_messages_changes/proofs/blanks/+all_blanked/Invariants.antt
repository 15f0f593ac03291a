use Rattle.std.proofs.Common.{length}
use Rattle.hm_messages_changes.proofs.blanks.+all_blanked.Given as goal

abbrev pub decreases-all_blanked : goal.decreases-all_blanked
decreases-all_blanked l = length l.definitions.now
