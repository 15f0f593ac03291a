use Rattle.std.proofs.Common.{rules, ◌≡◌, ◌-◌, ◌<◌, ◌∙◌, All, ap, filter, length, subst, sym, take}
use Rattle.std.proofs.lemmas.List.Elements.{All-filter, All-take}
use Rattle.hm_messages.specs.Headings.{further_text}
use Rattle.hm_messages.specs.Pages.{files_in, texts_in}
use Rattle.hm_verdicts.specs.Reports.{is_skipped}
use Rattle.hm_build_messages.specs.Explanations.{noted_of}
use Rattle.hm_build_messages.specs.declared.explaining.NumberedName.{NumberedName}
use Rattle.hm_build_messages.proofs.Told.{skips_stated}
use Rattle.hm_build_reports.specs.Settling.{module_set, statuses_of}
use Rattle.hm_build_messages.proofs.explaining.all_notes.Goals as goal

pub skipped_rows-requires : goal.skipped_rows-requires
skipped_rows-requires c = subst (λ n. All (λ (r : NumberedName). r.number < n) c.args.rows.now) (sym c.requires.len) c.requires.rows

pub skipped_notes-requires-clause-rows : goal.skipped_notes-requires-clause-rows
skipped_notes-requires-clause-rows c =
    let rows = c.args.rows.now in
    let many = length c.args.view.now.modules.now in
    let kept = filter (λ r. is_skipped (statuses_of c.args.view.now.settled.now r.number)) rows in
    let all : All (λ (r : NumberedName). r.number < many) kept = All-filter (λ r. is_skipped (statuses_of c.args.view.now.settled.now r.number)) (λ r. r.number < many) rows c.requires.rows in
    All-take (λ (r : NumberedName). r.number < many) c.noted_of-shown.result c.as_slice.result.now
    (subst (All (λ (r : NumberedName). r.number < many)) (sym (c.as_slice.ensures.value ∙ c.in_ok-skips.ensures)) all)

pub returns : goal.returns
returns c =
    let told = c.args.view.now in
    let format = told.pages.now.format in
    let status = statuses_of told.settled.now in
    let kept = c.in_ok-skips.skips.items in
    let shown = c.noted_of-shown.result in
    let first = take shown c.as_slice.result.now in
    let some : first ≡ take shown kept = ap (take shown) c.as_slice.ensures.value in
    let many : shown ≡ noted_of format (length kept) = search rules in
    let further : c.as_bytes.result.now ≡ further_text format (length kept - shown) = search rules in
    skips_stated format (files_in told.pages.now.items.items) (texts_in told.pages.now.items.items) (module_set told.modules.now told.plan.now) status c.args.rows.now kept first shown
    c.in_ok-text.text.items c.as_bytes.result.now c.extend_from_slice.new.self.items c.in_ok-skips.ensures some many c.in_ok-text.ensures further c.in_ok-extend_from_slice.ensures.items
