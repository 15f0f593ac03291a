use Rattle.std.proofs.Common.{map, take}
use Rattle.hm_service_candidates.specs.Ranges.{tried_of}
use Rattle.hm_service_offers.specs.Offers.{AreFixes}
use Rattle.hm_service_offers.proofs.trying.fixes_among.Given as goal

abbrev pub invariant-candidates : goal.invariant-candidates
invariant-candidates g l = AreFixes l.set l.source (take l.candidate-index (map tried_of l.candidates)) (map tried_of l.found.items)
