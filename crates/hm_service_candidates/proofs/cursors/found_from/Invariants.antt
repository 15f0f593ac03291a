use Rattle.std.proofs.Common.{◌≡◌, ◌<◌, ◌≤◌, ℕ}
use Rattle.hm_service_candidates.specs.Cursors.{IsCursor}
use Rattle.hm_service_candidates.specs.Edited.{IsByteAt}
use Rattle.hm_service_candidates.proofs.cursors.found_from.Given as goal

abbrev pub invariant-bytes : goal.invariant-bytes
invariant-bytes l = (l.here.at ≡ l.at) × (IsCursor l.text l.here × ((n : ℕ) → l.fn.cursor.at ≤ n → n < l.at → ¬ (IsByteAt l.text l.position n)))
