use Rattle.std.proofs.Common.{rules, map, take, ◌≡◌, ◌++◌, ◌∙◌, sym, ap, string_bytes, length}
use Rattle.std.specs.List.{flat_map}
use Rattle.std.proofs.lemmas.List.{take_all, length-map}
use Rattle.std.proofs.lemmas.List.Sorted.{IsPermutation-map, answers_always}
use Rattle.std.specs.Arc.{arc_value}
use Rattle.hm_verdicts.specs.Reports.{count_line}
use Rattle.hm_run_sources.specs.Names.{name_below}
use Rattle.hm_build_reports.specs.ReportBlocks.{report_block_of}
use Rattle.hm_build_reports.specs.Settling.{module_set, statuses_of}
use Rattle.hm_run_sources.proofs.Ordering.{sorted_map}
use Rattle.hm_build_reports.proofs.Reporting.{is_report}
use Rattle.hm_build_reports.proofs.reports.settled_report.Goals as goal

pub returns : goal.returns
returns c =
    let sorted = c.sort_by_key.new.self.items in
    let status = statuses_of c.args.settled.now in
    let all : take c.loop-block.block-index sorted ≡ sorted = take_all _ _ (search rules) in
    let blocks_text : string_bytes c.loop-block.text ≡ flat_map (λ b. b.text) (map report_block_of sorted) =
    c.loop-block.invariant ∙ ap (λ l. flat_map (λ b. b.text) (map report_block_of (take c.loop-block.block-index l))) c.deref-block-items.ensures.value ∙ ap (λ l. flat_map (λ b. b.text) (map report_block_of l)) all in
    is_report (module_set c.args.modules.now c.args.plan.now) c.requires.lawful status (map report_block_of c.in_ok-blocks.blocks.items) c.in_ok-blocks.ensures (map report_block_of sorted) (string_bytes c.add_counts.new.text)
    (IsPermutation-map report_block_of _ _ c.in_ok-sort_by_key.ensures.permutation)
    (sorted_map report_block_of (λ x y. name_below x.name y.name) _ (c.in_ok-sort_by_key.ensures.sorted (λ b. b.name) (answers_always _ (λ a r. r ≡ a.0.now.name) _ (λ f a r q k. search rules))))
    (c.in_ok-add_counts.ensures ∙ (ap (λ l. l ++ count_line status (length c.args.settled.now)) blocks_text ∙ ap (λ n. flat_map (λ b. b.text) (map report_block_of sorted) ++ count_line status n) (c.requires.len ∙ sym (length-map c.args.modules.now arc_value))))
