use Rattle.std.proofs.Common.{All, take}
use Rattle.hm_service_stand_ins.specs.Findings.{IsErrorAt}
use Rattle.hm_service_stand_ins.proofs.findings.has_error_at.Given as goal

abbrev pub invariant-diagnostics : goal.invariant-diagnostics
invariant-diagnostics l = All (λ d. ¬ (IsErrorAt l.number d)) (take l.diagnostic-index l.diagnostics)
