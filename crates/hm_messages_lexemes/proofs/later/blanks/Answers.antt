use Rattle.std.proofs.Common.{◌∙◌, ◌++◌, ◌∷◌, [], List, ℕ, ap, get_or, sym}
use Rattle.std.proofs.lemmas.List.{map_more}
use Rattle.hm_messages_lexemes.proofs.later.blanks.Goals as goal

pub bytes-preserved : goal.bytes-preserved
bytes-preserved c =
    c.in_ok-push.ensures.items
    ∙ (ap (λ (l : List ℕ). l ++ 32 ∷ []) c.bytes.invariant ∙ sym (map_more (λ (b : ℕ). 32) c.args.bytes.now c.bytes.index 0 c.bytes-test.true))
