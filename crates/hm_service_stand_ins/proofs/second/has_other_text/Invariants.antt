use Rattle.std.proofs.Common.{ℕ, ◌<◌}
use Rattle.hm_service_stand_ins.specs.StandIns.{IsSameAt}
use Rattle.hm_service_stand_ins.proofs.second.has_other_text.Given as goal

abbrev pub invariant-sources : goal.invariant-sources
invariant-sources l = (k : ℕ) → k < l.number → IsSameAt l.held l.set k
