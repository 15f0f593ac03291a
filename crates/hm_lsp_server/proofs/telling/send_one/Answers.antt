use Rattle.std.proofs.Common.{rules, ◌≡◌, ◌⊎◌, ◌∙◌, nat_eq, Some, false, [], ◌∷◌, inl, inr, length, map, ap, string_bytes, sym}
use Rattle.std.proofs.lemmas.List.{map-append}
use Rattle.std.specs.Prelude.{option_map}
use Rattle.serde_json.specs.View.{view}
use Rattle.hm_lsp_server.proofs.Told.{same_found, sent_none, sent_some}
use Rattle.hm_lsp_server.proofs.telling.send_one.Goals as goal
use Rattle.hm_lsp_server.proofs.telling.send_one.Goals.{else-is_empty-via-then-is_empty+else-not-is_shown, else-is_empty-via-else-is_empty}

pub returns-then-not-is_shown : goal.returns-then-not-is_shown
returns-then-not-is_shown c =
    let telling = c.args.telling.now in
    let second = option_map (λ s. s.now) telling.second in
    sent_none telling.encoding telling.held.now telling.checked.now second (option_map (λ u. u.now) c.args.shown) c.args.number c.args.uri.now c.as_slice-found.result.now (map view c.args.sent.now.items)
    (same_found telling.held.now telling.checked.now second c.args.number c.as_slice-found.result.now c.in_ok-found.found.items c.as_slice-found.ensures.value c.in_ok-found.ensures) (sym c.is_empty.ensures ∙ c.if-is_empty.true)
    (c.is_shown.ensures.no c.if-not-is_shown.true)

pub returns : goal.returns
returns c =
    let telling = c.args.telling.now in
    let second = option_map (λ s. s.now) telling.second in
    let why : (nat_eq (length c.as_slice-found.result.now) 0 ≡ false) ⊎ (option_map (λ u. u.now) c.args.shown ≡ Some c.args.uri.now) = elim c.else-is_empty.branch [
      | else-is_empty-via-then-is_empty+else-not-is_shown w ↦ inr (w.is_shown.ensures.yes w.if-not-is_shown.false)
      | else-is_empty-via-else-is_empty w ↦ inl (sym c.is_empty.ensures ∙ w.if-is_empty.false)
    ] in
    sent_some telling.encoding telling.held.now telling.checked.now second (option_map (λ u. u.now) c.args.shown) c.args.number c.args.uri.now c.as_slice-found.result.now (option_map string_bytes c.in_ok-shown_under.field-0)
    (map view c.args.sent.now.items) (map view c.push.new.self.items) (view c.in_ok-notice_of.field-0)
    (same_found telling.held.now telling.checked.now second c.args.number c.as_slice-found.result.now c.in_ok-found.found.items c.as_slice-found.ensures.value c.in_ok-found.ensures) why c.in_ok-shown_under.ensures c.in_ok-notice_of.ensures
    (ap (map view) c.in_ok-push.ensures.items ∙ map-append view c.args.sent.now.items (c.in_ok-notice_of.field-0 ∷ []))
