use Rattle.std.proofs.Common.{map}
use Rattle.std.specs.Prelude.{option_map}
use Rattle.hm_service_stand_ins.specs.Findings.{findings_of}
use Rattle.hm_service_stand_ins.proofs.Growing.{AreGoodBelow}
use Rattle.hm_service_stand_ins.proofs.good.good_texts.Given as goal

abbrev pub invariant-sources : goal.invariant-sources
invariant-sources l = AreGoodBelow (findings_of l.said) l.held (map (option_map (λ t. t.items)) l.before) l.number (map (option_map (λ t. t.items)) l.after.items)
