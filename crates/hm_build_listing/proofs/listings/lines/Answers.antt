use Rattle.std.proofs.Common.{rules, ◌∙◌, sym, map, string_bytes}
use Rattle.hm_run_sources.proofs.Ordering.{each_more}
use Rattle.hm_build_reports.proofs.Reporting.{name_by_place, inside_set}
use Rattle.hm_build_reports.specs.Settling.{module_set, statuses_of}
use Rattle.hm_build_listing.specs.Listings.{IsLineOf, file_of, line_block}
use Rattle.hm_build_listing.proofs.listings.lines.Goals as goal

pub loop-number-preserved : goal.loop-number-preserved
loop-number-preserved c =
    let set = c.args.set in
    each_more line_block (λ k b. IsLineOf (file_of (map string_bytes set.names.now) set.origins.now) (module_set set.modules.now set.plan.now) (statuses_of set.settled.now) k b) _ _ (record { name = c.as_str-name.result; text = c.in_ok-text.text }) c.loop-number.number
    c.in_ok-push.ensures.items c.loop-number.invariant.0 c.loop-number.invariant.1
    (record {
      inside = inside_set set.modules.now set.plan.now c.loop-number.number c.loop-number-test.true;
      name = search rules ∙ sym (name_by_place set.modules.now set.plan.now c.loop-number.number c.index-modules-number.result c.loop-number-test.true c.index-modules-number.is);
      text = c.in_ok-text.ensures;
    })
