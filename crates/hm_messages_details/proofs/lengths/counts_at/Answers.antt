use Rattle.std.proofs.Common.{refl}
use Rattle.hm_messages_details.specs.Parts.{later_of}
use Rattle.hm_messages_details.proofs.Found.{at_index}
use Rattle.hm_messages_details.proofs.lengths.counts_at.Goals as goal

pub returns-then-is_at : goal.returns-then-is_at
returns-then-is_at c = (later_of c.later-item.result, at_index later_of c.args.found.now c.found.later-index c.later-item.result c.found-test.true c.later-item.is, c.is_at.ensures c.if-is_at.true, refl, refl)
