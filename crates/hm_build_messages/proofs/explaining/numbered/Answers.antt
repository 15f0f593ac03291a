use Rattle.std.proofs.Common.{rules, refl, ◌∙◌, sym, map, []}
use Rattle.std.specs.Arc.{arc_value}
use Rattle.hm_run_sources.proofs.Ordering.{each_more}
use Rattle.hm_build_messages.specs.Explanations.{IsRowOf, named_of}
use Rattle.hm_build_reports.proofs.Reporting.{name_by_place}
use Rattle.hm_build_messages.proofs.explaining.numbered.Goals as goal

pub loop-number-preserved : goal.loop-number-preserved
loop-number-preserved c =
    each_more named_of (λ k r. IsRowOf (map arc_value c.args.modules.now) k r) _ _ (record { name = c.as_str-name.result; number = c.loop-number.number }) c.loop-number.number
    c.in_ok-push.ensures.items c.loop-number.invariant.0 c.loop-number.invariant.1
    (record {
      number = refl;
      name = search rules ∙ sym (name_by_place c.args.modules.now [] c.loop-number.number c.index-modules-number.result c.loop-number-test.true c.index-modules-number.is);
    })
