use Rattle.std.proofs.Common.{length, sym, ap, ◌∙◌, string_bytes}
use Rattle.std.specs.Arc.{arc_value}
use Rattle.std.proofs.lemmas.List.{length-map}
use Rattle.hm_build_reports.specs.Settling.{statuses_of}
use Rattle.hm_build_reports.proofs.Reporting.{report_of, lawful_of}
use Rattle.hm_build_reports.proofs.reports.report.Goals as goal

pub settled_report-requires-clause-lawful : goal.settled_report-requires-clause-lawful
settled_report-requires-clause-lawful c = lawful_of c.args.store.now c.modules-modules.result.now c.plan-plan.result.now c.modules-modules.ensures c.plan-plan.ensures c.legal.ensures.lawful

pub settled_report-requires-clause-len : goal.settled_report-requires-clause-len
settled_report-requires-clause-len c = ap length c.as_slice.ensures.value ∙ (c.in_ok-settled.ensures.len ∙ (sym (ap length c.modules-modules.ensures) ∙ length-map c.modules-modules.result.now arc_value))

pub returns : goal.returns
returns c =
    report_of c.args.store.now c.modules-modules.result.now c.plan-plan.result.now (statuses_of c.as_slice.result.now) (string_bytes c.in_ok-settled_report.field-0) c.modules-modules.ensures c.plan-plan.ensures
    (ap statuses_of c.as_slice.ensures.value ∙ c.in_ok-settled.ensures.settled) c.in_ok-settled_report.ensures
