use Rattle.std.proofs.Common.{◌∙◌, ◌<◌, map, sym, ap, subst, get_or}
use Rattle.std.specs.Arc.{arc_value}
use Rattle.std.specs.List.Sorted.{IsPermutation}
use Rattle.std.proofs.lemmas.List.Sorted.{IsPermutation-map}
use Rattle.hm_run_sources.specs.Names.{name_below}
use Rattle.hm_build_reports.specs.ReportBlocks.{all_blamed}
use Rattle.hm_build_reports.specs.Settling.{module_set, statuses_of}
use Rattle.hm_build_reports.proofs.Blame.{are_blamed}
use Rattle.hm_run_sources.proofs.Ordering.{sorted_map}
use Rattle.hm_build_reports.proofs.Reporting.{inside_set}
use Rattle.hm_build_reports.proofs.Tables.{row_inside}
use Rattle.hm_build_listing.proofs.blame.ordered_blame.Goals as goal

pub unpublished-requires-clause-modules : goal.unpublished-requires-clause-modules
unpublished-requires-clause-modules c k d h = row_inside c.args.modules.now c.args.plan.now c.args.number c.imports.result.now c.requires.lawful c.requires.number c.imports.ensures k d h

pub unpublished-requires-clause-settled : goal.unpublished-requires-clause-settled
unpublished-requires-clause-settled c k d h = subst (λ n. get_or c.imports.result.now k d < n) (sym c.requires.len) (row_inside c.args.modules.now c.args.plan.now c.args.number c.imports.result.now c.requires.lawful c.requires.number c.imports.ensures k d h)

pub returns : goal.returns
returns c =
    let p = module_set c.args.modules.now c.args.plan.now in
    let status = statuses_of c.args.settled.now in
    are_blamed p c.requires.lawful status c.args.number (inside_set c.args.modules.now c.args.plan.now c.args.number c.requires.number) (map (λ s. s.now) c.sort.new.self.items)
    (subst (λ l. IsPermutation l (map (λ s. s.now) c.sort.new.self.items)) (c.in_ok-names.ensures ∙ ap (all_blamed (map arc_value c.args.modules.now) status) c.imports.ensures)
    (IsPermutation-map (λ s. s.now) _ _ c.in_ok-sort.ensures.permutation))
    (sorted_map (λ s. s.now) name_below _ c.in_ok-sort.ensures.sorted)
