use Rattle.std.proofs.Common.{rules, ◌≡◌, ◌++◌, ◌∙◌, false, ℕ, List, length, map, ap₂, subst}
use Rattle.std.proofs.lemmas.List.Sorted.{answers_always}
use Rattle.hm_messages.specs.Headings.{count_text}
use Rattle.hm_messages.specs.Pages.{files_in, texts_in}
use Rattle.hm_build_messages.specs.Explanations.{AreErrorsStated, AreInTurn, AreSkipsStated, named_of, skipped_among}
use Rattle.hm_build_messages.specs.declared.explaining.NumberedName.{NumberedName}
use Rattle.hm_build_messages.proofs.Told.{number_here, stated_set}
use Rattle.hm_build_reports.specs.Settling.{module_set, statuses_of}
use Rattle.hm_build_messages.proofs.explaining.explanation.Goals as goal

pub error_messages-requires-clause-rows : goal.error_messages-requires-clause-rows
error_messages-requires-clause-rows c =
    number_here c.args.view.now.modules.now c.in_ok-rows.rows.items c.sort_by_key.new.self.items c.as_slice-order.result.now c.in_ok-rows.ensures c.in_ok-sort_by_key.ensures.permutation c.as_slice-order.ensures.value

pub all_notes-requires-clause-rows : goal.all_notes-requires-clause-rows
all_notes-requires-clause-rows c =
    number_here c.args.view.now.modules.now c.in_ok-rows.rows.items c.sort_by_key.new.self.items c.as_slice-order.result.now c.in_ok-rows.ensures c.in_ok-sort_by_key.ensures.permutation c.as_slice-order.ensures.value

pub returns : goal.returns
returns c =
    let told = c.args.view.now in
    let format = told.pages.now.format in
    let files = files_in told.pages.now.items.items in
    let texts = texts_in told.pages.now.items.items in
    let status = statuses_of told.settled.now in
    let p = module_set told.modules.now told.plan.now in
    let sorted = c.sort_by_key.new.self.items in
    let errors = c.in_ok-text.text.items in
    let notes = c.in_ok-notes.notes.items in
    let here = c.as_slice-order.ensures.value in
    let counts : c.as_bytes.result.now ≡ count_text format c.errors_in.result c.args.skipped = search rules in
    let joined : c.extend_from_slice.new.self.items ≡ errors ++ notes = search rules in
    stated_set format files texts told.modules.now told.plan.now status c.in_ok-rows.rows.items sorted (length told.settled.now) c.in_ok-text.ensures.0 errors notes c.extend_from_slice-2.new.self.items
    c.in_ok-rows.ensures c.in_ok-sort_by_key.ensures.permutation
    (c.in_ok-sort_by_key.ensures.sorted (λ r. r.name) (answers_always _ (λ a r. r ≡ a.0.now.name) _ (λ f a r q k. search rules)))
    (subst (λ l. AreInTurn (λ r before after m. AreErrorsStated format files texts p status r.number before after m) l false c.in_ok-text.ensures.0 errors) here c.in_ok-text.ensures.1)
    (subst (λ (l : List NumberedName). AreSkipsStated format files texts p status (skipped_among status (map named_of l)) notes) here c.in_ok-notes.ensures)
    c.requires.len
    (c.in_ok-extend_from_slice-2.ensures.items ∙ ap₂ (λ (a b : List ℕ). a ++ b) joined (counts ∙ ap₂ (count_text format) c.errors_in.ensures c.requires.skipped))
