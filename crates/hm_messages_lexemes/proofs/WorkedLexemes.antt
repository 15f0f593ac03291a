-- Worked examples: texts that are left out, and some that aren't.
use Rattle.std.proofs.Common.{◌≡◌, ◌≢◌, ◌∙◌, ℕ, Bool, true, false, List, [], ◌∷◌, ◌++◌, arith, eqb, get_or, refl, sym, ap, inl, inr}
use Rattle.std.proofs.lemmas.Bool.{false≢true}
use Rattle.std.specs.Prelude.{codes}
use Rattle.hm_lex.specs.Bytes.{class_of, is_digit, is_symbol}
use Rattle.hm_lex.specs.Runs.{IsRunOf}
use Rattle.hm_messages_lexemes.specs.Lexemes.{IsBackquoted, IsForeignLexeme, IsFractionBefore, IsOperatorBefore}
use Rattle.hm_messages_lexemes.specs.Worked.{BlankRow, LexemeRow}

operator : IsOperatorBefore (codes "++") (codes " y")
unfolding class_of
operator = ((refl, (refl, tt)), refl, λ d. false≢true d.0.0)

quoted : IsBackquoted (codes "`mod`")
unfolding class_of
quoted = (codes "mod", (refl, (refl, (refl, tt))), refl)

fraction : IsFractionBefore (codes "3.14") (codes " y")
unfolding class_of
fraction = (codes "3", codes "14", (refl, tt), (refl, (refl, tt)), refl, refl)

-- a text whose first byte is no backquote
not_quoted : (b : ℕ) (bs : List ℕ) → b ≢ 96 → IsBackquoted (b ∷ bs) → ⊥
not_quoted b bs other h = other (ap (λ (l : List ℕ). get_or l 0 0) h.2)

-- a text whose first byte is no digit
not_number : (b : ℕ) (bs after whole : List ℕ) → is_digit b ≡ false → IsRunOf is_digit whole → (part : List ℕ) → b ∷ bs ≡ whole ++ 46 ∷ part → ⊥
not_number b bs after [] other run part e = run
not_number b bs after (w ∷ ws) other run part e = false≢true (sym other ∙ (ap is_digit (ap (λ (l : List ℕ). get_or l 0 0) e) ∙ run.0))

half : IsForeignLexeme (codes "+") (codes "+ y") → ⊥
unfolding class_of
half h = elim h [
  | inl o ↦ false≢true (sym o.1)
  | inr other ↦ elim other [ inl q ↦ not_quoted 43 [] (λ e. false≢true (ap (λ n. eqb n 43) (sym e))) q | inr f ↦ not_number 43 [] (codes "+ y") f.0 refl f.2 f.1 f.4 ]
]

dashes : IsForeignLexeme (codes "--") (codes " y") → ⊥
unfolding class_of
dashes h = elim h [
  | inl o ↦ o.2 ((refl, (refl, tt)), omega arith)
  | inr other ↦ elim other [ inl q ↦ not_quoted 45 (codes "-") (λ e. false≢true (ap (λ n. eqb n 45) (sym e))) q | inr f ↦ not_number 45 (codes "-") (codes " y") f.0 refl f.2 f.1 f.4 ]
]

name : IsForeignLexeme (codes "x") (codes " y") → ⊥
unfolding class_of
name h = elim h [
  | inl o ↦ false≢true o.0.0
  | inr other ↦ elim other [ inl q ↦ not_quoted 120 [] (λ e. false≢true (ap (λ n. eqb n 120) (sym e))) q | inr f ↦ not_number 120 [] (codes " y") f.0 refl f.2 f.1 f.4 ]
]

pub worked_lexemes : LexemeRow
worked_lexemes = record {
  operator = inl operator;
  quoted = inr (inl quoted);
  fraction = inr (inr fraction);
  half = half;
  dashes = dashes;
  name = name;
}

pub worked_blanks : BlankRow
worked_blanks = record {
  blanked = record {
    before = codes "x ";
    text = codes "++";
    after = codes " y";
    source_is = refl;
    placed = refl;
    foreign = inl operator;
    other_is = refl;
  };
}
