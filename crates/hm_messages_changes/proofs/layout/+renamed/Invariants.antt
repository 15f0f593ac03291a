use Rattle.std.proofs.Common.{length}
use Rattle.hm_messages_changes.proofs.layout.+renamed.Given as goal

abbrev pub decreases-renamed : goal.decreases-renamed
decreases-renamed l = length l.others.now
