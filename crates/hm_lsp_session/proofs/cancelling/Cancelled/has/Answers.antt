use Rattle.std.proofs.Common.{◌≡◌, ◌∙◌, ◌<◌, ◌≤◌, ℕ, ap, get_or, length, map, subst, sym}
use Rattle.std.proofs.lemmas.Bool.{both_ways, false≢true}
use Rattle.std.proofs.lemmas.List.{get_or-map, length-map}
use Rattle.std.proofs.lemmas.List.Elements.{All-more}
use Rattle.serde_json.specs.View.{view}
use Rattle.hm_lsp_session.specs.Cancelled.{IsOfId, cancels_of}
use Rattle.hm_lsp_session.proofs.Identifiers.{none_of_id}
use Rattle.hm_lsp_session.proofs.cancelling.Cancelled.has.Goals as goal

pub messages-preserved : goal.messages-preserved
messages-preserved c =
    let id = view c.args.id.now in
    let vs = c.deref-message-items.result.now in
    let item = c.message-item.result in
    let i = c.messages.message-index in
    let at : get_or (map view vs) i (view item) ≡ view item = get_or-map view vs i item (view item) c.messages-test.true ∙ ap view (sym c.message-item.is) in
    let within : i < length (map view vs) = subst (λ (n : ℕ). i < n) (sym (length-map vs view)) c.messages-test.true in
    All-more (λ m. ¬ (IsOfId id m)) (map view vs) i (view item) within c.messages.invariant (subst (λ m. ¬ (IsOfId id m)) (sym at) (λ same. both_ways c.is_of_id.result c.if-is_of_id.false (c.is_of_id.ensures.1 same)))

pub returns : goal.returns
returns c =
    let vs = c.deref-message-items.result.now in
    let i = c.messages.message-index in
    let ends : length (map view vs) ≤ i = subst (λ (n : ℕ). n ≤ i) (sym (length-map vs view)) c.messages-test.false in
    let same : map view vs ≡ cancels_of c.args.self.now = ap (map view) c.deref-message-items.ensures.value in
    (λ t. absurd (false≢true t), λ found. absurd (none_of_id (map view vs) (cancels_of c.args.self.now) i (view c.args.id.now) same ends c.messages.invariant found))
