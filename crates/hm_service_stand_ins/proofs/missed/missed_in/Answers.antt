use Rattle.std.proofs.Common.{ap, map}
use Rattle.hm_service_messages.proofs.Chosen.{chosen_more}
use Rattle.hm_service_stand_ins.specs.Findings.{findings_of}
use Rattle.hm_service_stand_ins.specs.Missed.{IsMissed}
use Rattle.hm_service_stand_ins.proofs.Each.{decided}
use Rattle.hm_service_stand_ins.proofs.missed.missed_in.Goals as goal

pub diagnostics-preserved : goal.diagnostics-preserved
diagnostics-preserved c =
    let f = findings_of c.args.said.now in
    let d = c.diagnostic-item.result in
    let mark = c.is_missed.result in
    let old = map (λ x. x.now) c.diagnostics.found.items in
    let new = map (λ x. x.now) c.add.new.found.items in
    chosen_more (IsMissed f c.args.number) c.args.told.now c.diagnostics.diagnostic-index d old new mark c.diagnostics-test.true c.diagnostic-item.is c.diagnostics.invariant
    (decided mark (IsMissed f c.args.number d) c.is_missed.ensures.yes c.is_missed.ensures.no) c.in_ok-add.ensures.yes (λ clear. ap (map (λ x. x.now)) (c.in_ok-add.ensures.none clear))
