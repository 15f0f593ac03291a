-- Worked examples.
use Rattle.std.specs.Prelude.{List, ℕ, [], ◌∷◌, codes}
use Rattle.hm_lex.specs.declared.token.Kind.TheVariants.{VarId, QVarId}
use Rattle.hm_lex.specs.Comments.{IsNestedComment, IsLineComment}
use Rattle.hm_lex.specs.Quotes.{IsString, IsCharacter}
use Rattle.hm_lex.specs.Shapes.{HasShape, lexeme, malformed}
use Rattle.hm_lex.specs.Cut.{Begins}
use Rattle.hm_lex.specs.Places.{IsBefore}
use Rattle.hm_lex.specs.declared.token.Place.{Place}

abbrev pub place : ℕ → ℕ → Place
place line column = record { line = line; column = column }

pub record Worked : Type 0 where
  pub qualified_variable : HasShape (lexeme QVarId) (codes "A.B.x")
  pub qualified_word : HasShape malformed (codes "A.where")
  pub word_within_name : HasShape (lexeme VarId) (codes "where'")
  pub fraction : HasShape malformed (codes "1.5")
  pub exponent : HasShape malformed (codes "1e-5")
  pub strange_run : HasShape malformed (codes "=\\")
  pub arrow_of_dashes : HasShape malformed (codes "-->")
  pub dashes : IsLineComment (codes "---x")
  pub nested : IsNestedComment (codes "{-{--}-}")
  pub never_closed : (text : List ℕ) → IsNestedComment text → Begins text (codes "{-}-") → ⊥
  pub string : IsString (codes "\"a\\ \\b\\&c\"")
  pub newline : IsCharacter (codes "'\\n'")
  pub numbered : IsCharacter (codes "'\\x41'")
  pub greatest : IsCharacter (codes "'\\1114111'")
  pub too_great : IsCharacter (codes "'\\1114112'") → ⊥
  pub wide : IsCharacter (39 ∷ 195 ∷ 188 ∷ 39 ∷ [])
  pub no_two : IsCharacter (codes "'ab'") → ⊥
  pub half_wide : IsString (34 ∷ 195 ∷ 34 ∷ []) → ⊥
  pub next_line : IsBefore (place 1 9) (place 2 1)
  pub same_place : IsBefore (place 2 1) (place 2 1) → ⊥
  pub no_ampersand : IsCharacter (codes "'\\&'") → ⊥
