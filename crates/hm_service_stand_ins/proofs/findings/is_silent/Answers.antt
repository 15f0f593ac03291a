use Rattle.std.proofs.Common.{◌≡◌, All, subst}
use Rattle.std.proofs.lemmas.List.{take_all}
use Rattle.hm_service_messages.specs.declared.diagnostic.Diagnostic.{Diagnostic}
use Rattle.hm_service_stand_ins.proofs.Each.{none_more, not_none}
use Rattle.hm_service_stand_ins.proofs.findings.is_silent.Goals as goal

pub diagnostics-preserved : goal.diagnostics-preserved
diagnostics-preserved c =
    none_more (λ (d : Diagnostic). d.source ≡ c.args.number) c.args.diagnostics.now c.diagnostics.diagnostic-index c.diagnostic-item.result c.diagnostics-test.true c.diagnostic-item.is (c.is_at.ensures.no c.if-is_at.false) c.diagnostics.invariant

pub returns-then-is_at-clause-no : goal.returns-then-is_at-clause-no
returns-then-is_at-clause-no c = λ _.
    not_none (λ (d : Diagnostic). d.source ≡ c.args.number) c.args.diagnostics.now c.diagnostics.diagnostic-index c.diagnostic-item.result c.diagnostics-test.true c.diagnostic-item.is (c.is_at.ensures.yes c.if-is_at.true)

pub returns-clause-yes : goal.returns-clause-yes
returns-clause-yes c = λ _.
    subst (All (λ (d : Diagnostic). ¬ (d.source ≡ c.args.number))) (take_all c.diagnostics.diagnostic-index c.args.diagnostics.now c.diagnostics-test.false) c.diagnostics.invariant
