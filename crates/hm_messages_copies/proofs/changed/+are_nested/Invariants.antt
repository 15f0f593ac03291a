use Rattle.std.proofs.Common.{length}
use Rattle.hm_messages_copies.proofs.changed.+are_nested.Given as goal

abbrev pub decreases-are_nested : goal.decreases-are_nested
decreases-are_nested l = length l.definitions.now
