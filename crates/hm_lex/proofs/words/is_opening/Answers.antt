use Rattle.std.proofs.Common.{◌≡◌, ◌≢◌, ℕ, Bool, true, false, nat_eq, List, [], ◌∷◌, length, refl, sym, ◌∙◌, arith}
use Rattle.std.specs.Prelude.{◌&&◌}
use Rattle.std.proofs.lemmas.Bool.Decides.{nat_tests}
use Rattle.hm_lex.specs.Cut.{is_opening}
use Rattle.hm_lex.proofs.words.is_opening.Goals as goal

and_false : (x : Bool) → (x && false) ≡ false
and_false true = refl
and_false false = refl

not_one : (n : ℕ) → n ≢ 1 → nat_eq n 1 ≡ false
not_one n e = grind (arith, nat_tests)

none_longer : (text : List ℕ) → length text ≢ 1 → is_opening text ≡ false
unfolding is_opening
none_longer [] e = refl
none_longer (b ∷ []) e = absurd (e refl)
none_longer (b ∷ c ∷ rest) e = simp and_false

pub returns-else-text-eq1 : goal.returns-else-text-eq1
returns-else-text-eq1 c =
    let text = c.args.text.now in
    not_one (length text) c.if-text-eq1.false ∙ sym (none_longer text c.if-text-eq1.false)
