-- The tokens that a change puts in.
use Rattle.std.specs.Prelude.{◌≡◌, ℕ, List, codes}
use Rattle.hm_lex.specs.declared.token.Kind.{Kind}
use Rattle.hm_lex.specs.declared.token.Kind.TheVariants.{Op, Special, Word}
use Rattle.hm_lex.specs.declared.token.Token.{Token}
use Rattle.hm_lex.specs.Texts.{LiesIn, token_text}
use Rattle.hm_messages_hints.specs.declared.mark.Mark.{Mark}
use Rattle.hm_messages_hints.specs.declared.mark.Mark.TheVariants.{Semicolon, Comma, Equals, Arrow, Open, Close, OpenSquare, CloseSquare, LeftBrace, RightBrace, Where, Let, In, If, Then, Else, Case, Of, OfType, Backslash}

abbrev pub mark_text : Mark → List ℕ
mark_text Semicolon = codes ";"
mark_text Comma = codes ","
mark_text Equals = codes "="
mark_text Arrow = codes "->"
mark_text Open = codes "("
mark_text Close = codes ")"
mark_text OpenSquare = codes "["
mark_text CloseSquare = codes "]"
mark_text LeftBrace = codes "{"
mark_text RightBrace = codes "}"
mark_text Where = codes "where"
mark_text Let = codes "let"
mark_text In = codes "in"
mark_text If = codes "if"
mark_text Then = codes "then"
mark_text Else = codes "else"
mark_text Case = codes "case"
mark_text Of = codes "of"
mark_text OfType = codes "::"
mark_text Backslash = codes "\\"

-- the kind of a token with this text
abbrev pub mark_kind : Mark → Kind
mark_kind Semicolon = Special
mark_kind Comma = Special
mark_kind Equals = Op
mark_kind Arrow = Op
mark_kind Open = Special
mark_kind Close = Special
mark_kind OpenSquare = Special
mark_kind CloseSquare = Special
mark_kind LeftBrace = Special
mark_kind RightBrace = Special
mark_kind Where = Word
mark_kind Let = Word
mark_kind In = Word
mark_kind If = Word
mark_kind Then = Word
mark_kind Else = Word
mark_kind Case = Word
mark_kind Of = Word
mark_kind OfType = Op
mark_kind Backslash = Op

-- the token is in the text, and is this mark
pub record IsMarkIn (text : List ℕ) (mark : Mark) (token : Token) : Type 0 where
  pub lies : LiesIn text token
  pub is : token_text text token ≡ mark_text mark
  pub kind_is : token.kind ≡ mark_kind mark
