use Rattle.std.proofs.Common.{length}
use Rattle.hm_messages_copies.proofs.texts.+renamed.Given as goal

abbrev pub decreases-renamed : goal.decreases-renamed
decreases-renamed l = length l.others.now
