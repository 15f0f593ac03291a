use Rattle.std.proofs.Common.{◌≡◌, ◌++◌, take}
use Rattle.hm_service_places.proofs.sources.add_all.Given as goal

abbrev pub invariant-more : goal.invariant-more
invariant-more l = l.found.items ≡ l.initial.found.items ++ take l.diagnostic-index l.more
