-- Worked examples: texts that are left out, and some that aren't.
use Rattle.std.specs.Prelude.{ℕ, List, codes}
use Rattle.hm_lex.specs.declared.token.Place.{Place}
use Rattle.hm_messages_lexemes.specs.Lexemes.{IsBlankedAt, IsForeignLexeme}

abbrev place : ℕ → ℕ → Place
place line column = record { line = line; column = column }

-- `++`, a name between backquotes, and a number with a fraction are left out. One `+` of two isn't, nor two dashes, nor a name
pub record LexemeRow : Type 0 where
  pub operator : IsForeignLexeme (codes "++") (codes " y")
  pub quoted : IsForeignLexeme (codes "`mod`") (codes " y")
  pub fraction : IsForeignLexeme (codes "3.14") (codes " y")
  pub half : ¬ IsForeignLexeme (codes "+") (codes "+ y")
  pub dashes : ¬ IsForeignLexeme (codes "--") (codes " y")
  pub name : ¬ IsForeignLexeme (codes "x") (codes " y")

-- `++` of a source has blanks in its place
pub record BlankRow : Type 0 where
  pub blanked : IsBlankedAt (codes "x ++ y") (place 1 3) (codes "x    y")
