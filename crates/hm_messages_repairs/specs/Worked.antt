-- Worked examples of hints and changes.
use Rattle.std.specs.Prelude.{List, [], ◌∷◌, None, Some, codes}
use Rattle.hm_lex.specs.declared.token.Place.{Place}
use Rattle.hm_lex.specs.declared.token.Token.{Token}
use Rattle.hm_parse_grammar.specs.declared.symbol.Symbol.{Symbol}
use Rattle.hm_parse_grammar.specs.declared.symbol.Symbol.TheVariants.{Bar, Close, CloseSquare, Comma, Con, Equals, Import, Integer, LeftBrace, Module, Open, OpenSquare, Semicolon, Var, Where}
use Rattle.hm_messages_outline.specs.Brackets.{IsInnermost, IsOpen}
use Rattle.hm_messages_hints.specs.Advice.{IsElsewhere}
use Rattle.hm_messages_hints.specs.Marks.{IsMarkIn}
use Rattle.hm_messages_hints.specs.Repairs.{IsRepair}
use Rattle.hm_messages_hints.specs.SyntaxHints.{IsSyntaxHint}
use Rattle.hm_messages_hints.specs.Worked.{applied}
use Rattle.hm_messages_hints.specs.declared.change.TokenChange.TheVariants.{Remove}
use Rattle.hm_messages_hints.specs.declared.change.Repair.{Repair}
use Rattle.hm_messages_hints.specs.declared.change.Scope.TheVariants.{Whole}
use Rattle.hm_messages_hints.specs.declared.mark.Mark.TheVariants.{RightBrace}
use Rattle.hm_messages_hints.specs.declared.syntax_hints.SyntaxHint.TheVariants.{AppliedName, GuardAfterEquals, NoBrace, NotClosed, NumberComma, Update, WhereAfterSemicolon, LateQualified}

-- { ( ) [ x
abbrev pub brackets : List Symbol
brackets = LeftBrace ∷ Open ∷ Close ∷ OpenSquare ∷ Var ∷ []

-- the square bracket is the innermost open one. The brace is open around it, and the round bracket is closed
pub record BracketsRow : Type 0 where
  pub innermost : IsInnermost brackets 3
  pub around : ¬ (IsInnermost brackets 0)
  pub closed : ¬ (IsOpen brackets 1)

-- module M where
abbrev pub head : List Symbol
head = Module ∷ Con ∷ Where ∷ []

-- a name after `where` has no brace before it, and a brace there needs none. A brace after a small name is that of a record update, and one
-- after `where` isn't. A `;` leaves the square bracket open, and a `]` closes it
pub record FactsRow : Type 0 where
  pub layout : IsSyntaxHint head Var (codes "x") NoBrace
  pub brace : ¬ (IsSyntaxHint head LeftBrace (codes "{") NoBrace)
  pub update : IsSyntaxHint (Var ∷ []) LeftBrace (codes "{") Update
  pub no_update : ¬ (IsSyntaxHint head LeftBrace (codes "{") Update)
  pub left_open : IsSyntaxHint brackets Semicolon (codes ";") (NotClosed 3)
  pub shut : ¬ (IsSyntaxHint brackets CloseSquare (codes "]") (NotClosed 3))

-- in `{ f (g`, a name after `g` is an argument of a variable in a pattern, and `=` isn't. A bar is after `=`, `where` after `;`, and `,` after a
-- number; and the same after a name. `qualified` is after the name of an import, and after that of a module
pub record NeighboursRow : Type 0 where
  pub argument : IsSyntaxHint applied Var (codes "s") (AppliedName 2)
  pub no_argument : ¬ (IsSyntaxHint applied Equals (codes "=") (AppliedName 2))
  pub guard : IsSyntaxHint (LeftBrace ∷ Var ∷ Equals ∷ []) Bar (codes "|") GuardAfterEquals
  pub no_guard : ¬ (IsSyntaxHint (Var ∷ []) Bar (codes "|") GuardAfterEquals)
  pub apart : IsSyntaxHint (Semicolon ∷ []) Where (codes "where") WhereAfterSemicolon
  pub joined : ¬ (IsSyntaxHint (Var ∷ []) Where (codes "where") WhereAfterSemicolon)
  pub number : IsSyntaxHint (Integer ∷ []) Comma (codes ",") NumberComma
  pub no_number : ¬ (IsSyntaxHint (Var ∷ []) Comma (codes ",") NumberComma)
  pub late : IsSyntaxHint (Import ∷ Con ∷ []) Var (codes "qualified") LateQualified
  pub no_import : ¬ (IsSyntaxHint (Module ∷ Con ∷ []) Var (codes "qualified") LateQualified)

-- if a hint at the second of two tokens is about the first, the place of the first is named, and it isn't left out. If a hint at the first is about this
-- token itself, no place is named
pub record ElsewhereRow : Type 0 where
  pub other : (a b : Token) → IsElsewhere (a ∷ b ∷ []) 1 0 (Some a.place)
  pub not_left_out : (a b : Token) → ¬ (IsElsewhere (a ∷ b ∷ []) 1 0 None)
  pub same : (a b : Token) → IsElsewhere (a ∷ b ∷ []) 0 0 None
  pub not_named : (a b : Token) (p : Place) → ¬ (IsElsewhere (a ∷ b ∷ []) 0 0 (Some p))

abbrev pub without_first : Repair
without_first = record { at = 0; change = Remove; scope = Whole }

-- a source that is a lone `}` can be read without its one token. If there are two of them, one is left, and it spells no module. A source without tokens is
-- read as it is, so no change of it is a repair
pub record ChangesRow : Type 0 where
  pub lone : (t : Token) → IsMarkIn (codes "}") RightBrace t → IsRepair (codes "}") (t ∷ []) without_first
  pub two : (t : Token) → IsMarkIn (codes "}") RightBrace t → ¬ (IsRepair (codes "}") (t ∷ t ∷ []) without_first)
  pub empty : ¬ (IsRepair [] [] without_first)
