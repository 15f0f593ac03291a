use Rattle.std.proofs.Common.{rules, ◌≡◌, ◌∙◌, ◌<◌, ◌≤◌, ◌++◌, IfSome, ap, arith, drop, length, map, refl, subst}
use Rattle.std.proofs.lemmas.List.{take_rest}
use Rattle.hm_lex.specs.Cut.{place_after}
use Rattle.hm_service_candidates.specs.EditSteps.{IsFront}
use Rattle.hm_service_candidates.proofs.Made.{made_text, too_long}
use Rattle.hm_service_candidates.proofs.edited.edited_text.Goals as goal
use Rattle.hm_service_messages.specs.Lines.{edit_of}

pub returns-then-len-gt-MOST_BYTES-clause-none : goal.returns-then-len-gt-MOST_BYTES-clause-none
returns-then-len-gt-MOST_BYTES-clause-none c =
    let text = c.args.text.now in
    let edits = c.args.edits.now in
    let front = c.in-Some-2.front in
    let is : IsFront text (map edit_of edits) front.bytes.items front.end = subst (λ o. IfSome o (λ f. IsFront text (map edit_of edits) f.bytes.items f.end)) c.in-Some-2.is c.in_ok-front.ensures.some in
    let long : 4294967294 ≤ length front.bytes.items = first_of (search rules, omega (arith, c.if-len-gt-MOST_BYTES.true, c.len.ensures)) in
    too_long text edits front.bytes.items front.end is long

pub returns-clause-some : goal.returns-clause-some
returns-clause-some c =
    let text = c.args.text.now in
    let edits = c.args.edits.now in
    let first = c.index-edits-0.result in
    let front = c.in-Some-2.front in
    let is : IsFront text (map edit_of edits) front.bytes.items front.end = subst (λ o. IfSome o (λ f. IsFront text (map edit_of edits) f.bytes.items f.end)) c.in-Some-2.is c.in_ok-front.ensures.some in
    let some : 0 < length edits = search rules in
    let whole : c.in_ok-made.made.items ≡ front.bytes.items ++ drop front.end.at text = c.in_ok-made.ensures ∙ ap (λ l. front.bytes.items ++ l) (take_rest text front.end.at) in
    made_text text edits first front.bytes.items front.end (record { text = c.in_ok-made.made; start = c.in-Some.start; end = front.end.place; new_end = c.place_after_all-new_end.result }) some c.index-edits-0.is is whole c.in-Some.ensures.some refl
    (c.place_after_all-new_end.ensures ∙ ap place_after c.as_slice.ensures.value)
