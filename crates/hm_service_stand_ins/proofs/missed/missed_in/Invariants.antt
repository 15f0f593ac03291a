use Rattle.std.proofs.Common.{map, take}
use Rattle.hm_service_messages.specs.Choices.{AreChosen}
use Rattle.hm_service_stand_ins.specs.Findings.{findings_of}
use Rattle.hm_service_stand_ins.specs.Missed.{IsMissed}
use Rattle.hm_service_stand_ins.proofs.missed.missed_in.Given as goal

abbrev pub invariant-diagnostics : goal.invariant-diagnostics
invariant-diagnostics l = AreChosen (IsMissed (findings_of l.said) l.number) (take l.diagnostic-index l.told) (map (λ d. d.now) l.found.items)
