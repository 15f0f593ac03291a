-- The text of a token in its source.
use Rattle.std.specs.Prelude.{ℕ, ◌≤◌, List, length, slice_range}
use Rattle.std.specs.Str.{IsUtf8}
use Rattle.hm_lex.specs.declared.token.Token.{Token}

-- the bytes of a token in its source
abbrev pub token_text : List ℕ → Token → List ℕ
token_text source token = slice_range source token.start token.end

-- the token lies in the source, and its bytes are text
pub record LiesIn (source : List ℕ) (token : Token) : Type 0 where
  pub ordered : token.start ≤ token.end
  pub within : token.end ≤ length source
  pub is_text : IsUtf8 (token_text source token)
