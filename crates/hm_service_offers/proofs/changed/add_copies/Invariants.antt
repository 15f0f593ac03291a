use Rattle.std.proofs.Common.{take}
use Rattle.hm_service_offers.specs.Steps.{AreAppended}
use Rattle.hm_service_offers.proofs.changed.add_copies.Given as goal

abbrev pub invariant-more : goal.invariant-more
invariant-more l = AreAppended (take l.source-index l.more) l.initial.held.items l.held.items
