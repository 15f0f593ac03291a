use Rattle.std.proofs.lemmas.List.{take_all}
use Rattle.hm_service_stand_ins.specs.Findings.{IsErrorAt}
use Rattle.hm_service_stand_ins.proofs.Each.{none_found, none_more, one_found}
use Rattle.hm_service_stand_ins.proofs.findings.has_error_at.Goals as goal

pub diagnostics-preserved : goal.diagnostics-preserved
diagnostics-preserved c =
    none_more (IsErrorAt c.args.number) c.args.diagnostics.now c.diagnostics.diagnostic-index c.diagnostic-item.result c.diagnostics-test.true c.diagnostic-item.is (c.is_error_at.ensures.no c.if-is_error_at.false) c.diagnostics.invariant

pub returns-then-is_error_at-clause-yes : goal.returns-then-is_error_at-clause-yes
returns-then-is_error_at-clause-yes c = λ _.
    one_found (IsErrorAt c.args.number) c.args.diagnostics.now c.diagnostics.diagnostic-index c.diagnostic-item.result c.diagnostics-test.true c.diagnostic-item.is (c.is_error_at.ensures.yes c.if-is_error_at.true)

pub returns-clause-no : goal.returns-clause-no
returns-clause-no c = λ _.
    none_found (IsErrorAt c.args.number) c.args.diagnostics.now c.diagnostics.diagnostic-index (take_all c.diagnostics.diagnostic-index c.args.diagnostics.now c.diagnostics-test.false) c.diagnostics.invariant
