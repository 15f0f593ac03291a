use Rattle.std.proofs.Common.{◌≡◌, All, take}
use Rattle.hm_service_stand_ins.proofs.findings.is_silent.Given as goal

abbrev pub invariant-diagnostics : goal.invariant-diagnostics
invariant-diagnostics l = All (λ d. ¬ (d.source ≡ l.number)) (take l.diagnostic-index l.diagnostics)
