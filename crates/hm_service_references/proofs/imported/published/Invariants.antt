use Rattle.std.proofs.Common.{map, take}
use Rattle.std.specs.Arc.{arc_value}
use Rattle.hm_store.specs.Settlements.{settlement}
use Rattle.hm_verdicts.specs.Verdicts.{ArePublished}
use Rattle.hm_service_references.proofs.imported.published.Given as goal

abbrev pub invariant-loop-number : goal.invariant-loop-number
invariant-loop-number l = ArePublished (settlement l.store) (take l.number-index l.numbers) (map arc_value l.interfaces.items)
