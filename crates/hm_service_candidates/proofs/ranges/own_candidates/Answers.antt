use Rattle.std.proofs.Common.{◌≡◌, ◌<◌, length, map, ap, refl, slice_range, subst}
use Rattle.std.proofs.lemmas.Option.{slice_get_read}
use Rattle.hm_service_candidates.proofs.InRange.{messages_of, own_of, same_member}
use Rattle.hm_service_candidates.specs.Candidates.{AreMessagesOf}
use Rattle.hm_service_candidates.specs.Ranges.{elsewhere, note, outside}
use Rattle.hm_service_messages.specs.declared.diagnostic.Diagnostic.{Diagnostic}
use Rattle.hm_service_candidates.proofs.ranges.own_candidates.Goals as goal

pub returns-then-not-is_error : goal.returns-then-not-is_error
returns-then-not-is_error c =
    note (slice_get_read c.args.told.now (length c.args.told.now) c.args.number c.index-told-number.result refl c.requires c.index-told-number.is) (c.is_error.ensures.no c.if-not-is_error.true) (ap (map (λ d. d.now)) c.new.ensures.items)

pub returns-then-not-is_of : goal.returns-then-not-is_of
returns-then-not-is_of c =
    elsewhere (slice_get_read c.args.told.now (length c.args.told.now) c.args.number c.index-told-number-2.result refl c.requires c.index-told-number-2.is) (c.is_of.ensures.no c.if-not-is_of.true) (ap (map (λ d. d.now)) c.new-then-not-is_of.ensures.items)

pub returns-then-not-has_message_in : goal.returns-then-not-has_message_in
returns-then-not-has_message_in c =
    outside (messages_of c.args.told.now c.args.number c.end_of_notes-end.result c.end_of_notes-end.ensures.later c.end_of_notes-end.ensures.within c.end_of_notes-end.ensures.notes c.end_of_notes-end.ensures.next)
    (c.has_message_in.ensures.no c.if-not-has_message_in.true) (ap (map (λ d. d.now)) c.new-then-not-has_message_in.ensures.items)

pub returns : goal.returns
returns c =
    let told = c.args.told.now in
    let k = c.args.number in
    let end = c.end_of_notes-end.result in
    let messages : AreMessagesOf told k (slice_range told k end) = messages_of told k end c.end_of_notes-end.ensures.later c.end_of_notes-end.ensures.within c.end_of_notes-end.ensures.notes c.end_of_notes-end.ensures.next in
    let same : c.index-told-number-2.result ≡ c.index-told-number.result = same_member told k c.index-told-number-2.result c.index-told-number.result c.requires c.index-told-number-2.is c.index-told-number.is in
    let here : c.index-told-number.result.source ≡ c.args.range.now.source = subst (λ (d : Diagnostic). d.source ≡ c.args.range.now.source) same (c.is_of.ensures.yes c.if-not-is_of.false) in
    own_of told c.args.range.now k c.index-told-number.result (slice_range told k end) c.candidates_of.result c.requires c.index-told-number.is (c.is_error.ensures.yes c.if-not-is_error.false) here messages
    (c.has_message_in.ensures.yes c.if-not-has_message_in.false) c.candidates_of.ensures
