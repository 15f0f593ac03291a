use Rattle.std.proofs.Common.{◌≡◌, ◌++◌, map, take}
use Rattle.hm_service_candidates.specs.Ranges.{tried_of}
use Rattle.hm_service_offers.proofs.offering.add_all.Given as goal

abbrev pub invariant-more : goal.invariant-more
invariant-more l = map tried_of l.found.items ≡ map tried_of l.initial.found.items ++ map tried_of (take l.candidate-index l.more)
