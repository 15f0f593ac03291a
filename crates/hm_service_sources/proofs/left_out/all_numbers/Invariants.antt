use Rattle.hm_service_sources.specs.HeldSets.{AreAll}
use Rattle.hm_service_sources.proofs.left_out.all_numbers.Given as goal

abbrev pub invariant-numbers : goal.invariant-numbers
invariant-numbers l = AreAll l.number l.numbers.items
