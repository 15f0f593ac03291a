use Rattle.std.proofs.Common.{◌≡◌, take}
use Rattle.std.specs.List.{flat_map}
use Rattle.hm_service_rename.specs.Sets.{error_source}
use Rattle.hm_service_rename.proofs.good.sources_of.Given as goal

abbrev pub invariant-diagnostics : goal.invariant-diagnostics
invariant-diagnostics l = l.sources.items ≡ flat_map error_source (take l.diagnostic-index l.diagnostic-items)
