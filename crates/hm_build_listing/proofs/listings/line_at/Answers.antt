use Rattle.std.proofs.Common.{rules, ◌≡◌, ℕ, List, [], ◌∙◌, ap, sym, map, string_bytes, subst}
use Rattle.hm_verdicts.specs.Verdicts.{Published, Failed, Skipped}
use Rattle.hm_build_reports.specs.Settling.{module_set, status_of, statuses_of}
use Rattle.hm_build_objects.specs.Objects.{module_text}
use Rattle.hm_build_listing.specs.Listings.{file_of}
use Rattle.hm_build_listing.proofs.Lines.{published, failed, skipped}
use Rattle.hm_build_listing.proofs.listings.line_at.Goals as goal

pub returns-in_ok-module_line-in-Published : goal.returns-in_ok-module_line-in-Published
returns-in_ok-module_line-in-Published c =
    let set = c.args.set in
    published _ (module_set set.modules.now set.plan.now) (statuses_of set.settled.now) c.args.number _ _ _ c.file_of-file.ensures c.module_at-module.ensures c.in-Published.interface.now
    (ap status_of (sym c.in-Published.is) ∙ c.settled_at.ensures) c.in_ok-module_line-in-Published.ensures

pub returns-in_ok-module_line-in-Failed : goal.returns-in_ok-module_line-in-Failed
returns-in_ok-module_line-in-Failed c =
    let set = c.args.set in
    failed _ (module_set set.modules.now set.plan.now) (statuses_of set.settled.now) c.args.number _ _ _ c.file_of-file.ensures c.module_at-module.ensures c.in-Failed.faults.now
    (ap status_of (sym c.in-Failed.is) ∙ c.settled_at.ensures) (c.in_ok-module_line-in-Failed.ensures ∙ ap (λ found. module_text c.file_of-file.result.now c.module_at-module.result.now (Failed found) []) c.as_slice.ensures)

pub returns-in_ok-module_line-in-Skipped : goal.returns-in_ok-module_line-in-Skipped
returns-in_ok-module_line-in-Skipped c =
    let set = c.args.set in
    skipped _ (module_set set.modules.now set.plan.now) (statuses_of set.settled.now) c.args.number _ _ _ c.file_of-file.ensures c.module_at-module.ensures (map (λ s. s.now) c.in_ok-names-in-Skipped.names.items)
    (ap status_of (sym c.in-Skipped.is) ∙ c.settled_at.ensures) c.in_ok-names-in-Skipped.ensures
    (c.in_ok-module_line-in-Skipped.ensures ∙ ap (λ names. module_text c.file_of-file.result.now c.module_at-module.result.now Skipped (map (λ s. s.now) names)) c.as_slice-in-Skipped.ensures.value)
