use Rattle.std.proofs.Common.{◌≡◌}
use Rattle.hm_service_candidates.specs.Cursors.{IsCursor}
use Rattle.hm_service_candidates.proofs.cursors.place_after_all.Given as goal

abbrev pub invariant-bytes : goal.invariant-bytes
invariant-bytes l = (l.here.at ≡ l.i) × IsCursor l.text l.here
