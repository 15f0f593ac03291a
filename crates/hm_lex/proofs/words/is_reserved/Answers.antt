use Rattle.std.proofs.Common.{◌≡◌, ℕ, false, List, [], ◌∷◌, length, refl, sym, ◌∙◌, arith}
use Rattle.std.proofs.lemmas.Bool.{eqb-true}
use Rattle.hm_lex.specs.Names.{is_reserved}
use Rattle.hm_lex.proofs.words.is_reserved.Goals as goal

of_nothing : (text : List ℕ) → length text ≡ 0 → is_reserved text ≡ false
unfolding is_reserved
of_nothing [] e = refl
of_nothing (b ∷ bs) e = absurd (omega arith)

pub returns-else-not-is_empty : goal.returns-else-not-is_empty
returns-else-not-is_empty c =
    let text = c.args.text.now in
    rw c.if-not-is_empty.false (sym (of_nothing text (eqb-true (length text) 0 (sym c.is_empty.ensures ∙ c.if-not-is_empty.false))))
