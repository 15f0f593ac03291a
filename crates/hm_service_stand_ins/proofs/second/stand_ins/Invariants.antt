use Rattle.std.proofs.Common.{map}
use Rattle.std.specs.Prelude.{option_map}
use Rattle.hm_service_stand_ins.specs.Findings.{findings_of}
use Rattle.hm_service_stand_ins.proofs.Growing.{AreStandInsBelow}
use Rattle.hm_service_stand_ins.proofs.second.stand_ins.Given as goal

abbrev pub invariant-sources : goal.invariant-sources
invariant-sources l = AreStandInsBelow (findings_of l.said) l.held (map (option_map (λ t. t.items)) l.good) l.number l.set.items
