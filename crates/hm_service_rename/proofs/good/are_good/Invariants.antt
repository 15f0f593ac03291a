use Rattle.std.proofs.Common.{◌<◌, ◌↔◌, ℕ}
use Rattle.hm_service_rename.specs.Sets.{IsGood}
use Rattle.hm_service_rename.proofs.good.are_good.Given as goal

abbrev pub invariant-modules : goal.invariant-modules
invariant-modules l = (k : ℕ) → k < l.number → IsGood l.store k ↔ IsGood l.other k
