use Rattle.std.proofs.Common.{◌≡◌, ◌++◌, map, take}
use Rattle.hm_service_candidates.specs.Ranges.{tried, tried_of}
use Rattle.hm_service_candidates.proofs.ranges.add_all.Given as goal

abbrev pub invariant-changes : goal.invariant-changes
invariant-changes l = map tried_of l.found.items ≡ map tried_of l.initial.found.items ++ map (tried l.fault) (map (λ d. d.now) (take l.change-index l.changes))
