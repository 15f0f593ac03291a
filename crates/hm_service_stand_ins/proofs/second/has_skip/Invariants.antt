use Rattle.std.proofs.Common.{All, take}
use Rattle.hm_service_stand_ins.specs.StandIns.{IsSkip}
use Rattle.hm_service_stand_ins.proofs.second.has_skip.Given as goal

abbrev pub invariant-diagnostics : goal.invariant-diagnostics
invariant-diagnostics l = All (λ d. ¬ (IsSkip d)) (take l.diagnostic-index l.diagnostics)
