-- Tokens of a text that comes after other text, so that a source can be lexed in parts.
use Rattle.std.specs.Prelude.{◌≡◌, ℕ, ◌+◌, ◌≤◌, List, [], ◌∷◌, ◌++◌, length, map}
use Rattle.std.specs.List.{count_by}
use Rattle.hm_lex.specs.declared.token.Token.{Token}
use Rattle.hm_lex.specs.Cut.{Piece, IsCut, depth_after, is_line_end}
use Rattle.hm_lex.specs.Faults.{AreTokensOf}

-- the bytes end a line
abbrev pub EndsLine : List ℕ → Type 0
EndsLine bytes = (line : List ℕ) × (bytes ≡ line ++ 10 ∷ [])

-- each bracket that is opened in the text is closed in it
abbrev pub IsClosed : List ℕ → Type 0
IsClosed text = (pieces : List Piece) × IsCut pieces text × (depth_after pieces ≡ 0)

-- the token, if these lines come before its text
abbrev pub moved : List ℕ → Token → Token
moved lines token = record { kind = token.kind; start = length lines + token.start; end = length lines + token.end; place = record { line = count_by is_line_end lines + token.place.line; column = token.place.column } }

-- the tokens of a text, if these lines come before it
abbrev pub AreTokensAfter : List ℕ → List ℕ → List Token → Type 0
AreTokensAfter lines text tokens = (own : List Token) × AreTokensOf text own × (tokens ≡ map (moved lines) own)

-- the token ends, and its line is, within a text of this many bytes
pub record IsPlacedWithin (len : ℕ) (token : Token) : Type 0 where
  pub ordered : token.start ≤ token.end
  pub within : token.end ≤ len
  pub line : token.place.line ≤ len + 1
