use Rattle.std.proofs.Common.{◌≡◌, ◌∙◌, ◌++◌, ◌<◌, ℕ, List, ap, get_or, length, map, slice_range, subst, sym}
use Rattle.std.proofs.lemmas.List.{get_or-map, length-map}
use Rattle.hm_service_candidates.specs.EditSteps.{IsSpan}
use Rattle.hm_service_candidates.proofs.Edits.{begun_more, stuck}
use Rattle.hm_service_messages.specs.Lines.{Change, edit_of}
use Rattle.hm_service_candidates.proofs.edited.front_of.Goals as goal

pub edits-preserved : goal.edits-preserved
edits-preserved c =
    let text = c.args.text.now in
    let edits = c.args.edits.now in
    let es : List Change = map edit_of edits in
    let i = c.edits.edit-index in
    let item = c.edit-item.result in
    let e : Change = edit_of item in
    let span = c.in-Some.span in
    let is : IsSpan text c.edits.end.at e span = c.in-Some.ensures.some in
    let inside : i < length es = subst (λ (n : ℕ). i < n) (sym (length-map edits edit_of)) c.edits-test.true in
    let here : get_or es i e ≡ e = get_or-map edit_of edits i item e c.edits-test.true ∙ ap edit_of (sym c.edit-item.is) in
    let first : c.extend_from_slice.new.self.items ≡ c.edits.bytes.items ++ slice_range text c.edits.end.at span.start.at = c.in_ok-extend_from_slice.ensures.items in
    let second : c.extend_from_slice-in-edits.new.self.items ≡ c.extend_from_slice.new.self.items ++ e.text =
    c.in_ok-extend_from_slice-2.ensures.items ∙ ap (λ (l : List ℕ). c.extend_from_slice.new.self.items ++ l) c.as_bytes.ensures.value in (
      is.end,
      begun_more text es i c.edits.end.at span.start.at span.end.at e e c.edits.bytes.items c.extend_from_slice.new.self.items c.extend_from_slice-in-edits.new.self.items inside here c.edits.invariant.1 is.later is.ordered is.from is.to first second,
    )

pub returns-in_default-clause-none : goal.returns-in_default-clause-none
returns-in_default-clause-none c =
    let text = c.args.text.now in
    let edits = c.args.edits.now in
    let es : List Change = map edit_of edits in
    let i = c.edits.edit-index in
    let item = c.edit-item.result in
    let e : Change = edit_of item in
    let inside : i < length es = subst (λ (n : ℕ). i < n) (sym (length-map edits edit_of)) c.edits-test.true in
    let here : get_or es i e ≡ e = get_or-map edit_of edits i item e c.edits-test.true ∙ ap edit_of (sym c.edit-item.is) in
    stuck text es i c.edits.end.at e e c.edits.bytes.items inside here c.edits.invariant.1 c.in_default.ensures.none
