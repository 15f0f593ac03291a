use Rattle.std.proofs.Common.{◌≡◌, map, slice_index_or, take}
use Rattle.hm_service_offers.proofs.judging.sources_of.Given as goal

abbrev pub invariant-modules : goal.invariant-modules
invariant-modules l = l.sources.items ≡ map (λ i. slice_index_or l.part i 0) (take l.origin-index l.origin-items)
