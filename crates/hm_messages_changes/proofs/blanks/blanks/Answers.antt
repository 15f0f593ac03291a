use Rattle.std.proofs.Common.{◌∙◌, ◌++◌, ◌∷◌, [], List, ℕ, ap, get_or, sym}
use Rattle.std.proofs.lemmas.List.{map_more}
use Rattle.hm_messages_changes.specs.Blanks.{blank}
use Rattle.hm_messages_changes.proofs.blanks.blanks.Goals as goal

pub loop-byte-preserved : goal.loop-byte-preserved
loop-byte-preserved c =
    c.in_ok-push.ensures.items ∙ (ap (λ (b : ℕ). c.loop-byte.made.items ++ b ∷ []) c.blank.ensures
    ∙ (ap (λ (l : List ℕ). l ++ blank (get_or c.args.bytes.now c.loop-byte.byte-index 0) ∷ []) c.loop-byte.invariant ∙ sym (map_more blank c.args.bytes.now c.loop-byte.byte-index 0 c.loop-byte-test.true)))
