use Rattle.std.proofs.lemmas.List.{take_all}
use Rattle.hm_service_stand_ins.specs.StandIns.{IsSkip}
use Rattle.hm_service_stand_ins.proofs.Each.{none_found, none_more, one_found}
use Rattle.hm_service_stand_ins.proofs.second.has_skip.Goals as goal

pub diagnostics-preserved : goal.diagnostics-preserved
diagnostics-preserved c =
    none_more IsSkip c.args.diagnostics.now c.diagnostics.diagnostic-index c.diagnostic-item.result c.diagnostics-test.true c.diagnostic-item.is (c.is_skip.ensures.no c.if-is_skip.false) c.diagnostics.invariant

pub returns-then-is_skip-clause-yes : goal.returns-then-is_skip-clause-yes
returns-then-is_skip-clause-yes c = λ _.
    one_found IsSkip c.args.diagnostics.now c.diagnostics.diagnostic-index c.diagnostic-item.result c.diagnostics-test.true c.diagnostic-item.is (c.is_skip.ensures.yes c.if-is_skip.true)

pub returns-clause-no : goal.returns-clause-no
returns-clause-no c = λ _.
    none_found IsSkip c.args.diagnostics.now c.diagnostics.diagnostic-index (take_all c.diagnostics.diagnostic-index c.args.diagnostics.now c.diagnostics-test.false) c.diagnostics.invariant
