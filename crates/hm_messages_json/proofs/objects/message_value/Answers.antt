use Rattle.std.proofs.Common.{◌≡◌, ◌∙◌, IfOk, subst}
use Rattle.serde_json.specs.View.{view}
use Rattle.hm_messages_json.proofs.Joined.{joined_same, ranged_same}
use Rattle.hm_messages_json.proofs.objects.message_value.Goals as goal

pub returns : goal.returns
returns c =
    let m = c.args.message.now in
    let same = joined_same m _ _ _ _ _ _ _ _ _ _ _ _ _ _ _ _ _ _ c.in_ok-edits.ensures c.in_ok-end.ensures c.in_ok-expected.ensures c.in_ok-hint.ensures c.in_ok-owner.ensures c.in_ok-name.ensures
    c.in_ok-other.ensures c.in_ok-start.ensures c.in_ok-actual.ensures in
    subst (λ d. IfOk c.with_ranges.result (λ value. view value ≡ d))
    (ranged_same _ _ _ _ _ _ (c.in_ok-object.ensures ∙ same) c.in_ok-part.ensures c.in_ok-second.ensures) c.with_ranges.ensures
