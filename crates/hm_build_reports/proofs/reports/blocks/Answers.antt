use Rattle.std.proofs.Common.{rules, ◌∙◌, sym}
use Rattle.hm_run_sources.proofs.Ordering.{each_more}
use Rattle.hm_verdicts.specs.Reports.{IsBlockOf}
use Rattle.hm_build_reports.specs.Settling.{module_set, statuses_of}
use Rattle.hm_build_reports.specs.ReportBlocks.{report_block_of}
use Rattle.hm_build_reports.proofs.Reporting.{name_by_place, inside_set}
use Rattle.hm_build_reports.proofs.reports.blocks.Goals as goal

pub loop-number-preserved : goal.loop-number-preserved
loop-number-preserved c =
    each_more report_block_of (λ k b. IsBlockOf (module_set c.args.modules.now c.args.plan.now) (statuses_of c.args.settled.now) k b) _ _ (record { name = c.as_str-name.result; text = c.in_ok-text.text }) c.loop-number.number
    c.in_ok-push.ensures.items c.loop-number.invariant.0 c.loop-number.invariant.1
    (record {
      inside = inside_set c.args.modules.now c.args.plan.now c.loop-number.number c.loop-number-test.true;
      name = search rules ∙ sym (name_by_place c.args.modules.now c.args.plan.now c.loop-number.number c.index-modules-number.result c.loop-number-test.true c.index-modules-number.is);
      text = c.in_ok-text.ensures;
    })
