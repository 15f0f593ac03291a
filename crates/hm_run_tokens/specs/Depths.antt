-- The depth of brackets after tokens. No public clause names these.
use Rattle.std.specs.Prelude.{ℕ, List, [], ◌∷◌}
use Rattle.hm_lex.specs.declared.token.Token.{Token}
use Rattle.hm_lex.specs.Cut.{text_depth}
use Rattle.hm_lex.specs.Texts.{token_text}

-- the depth after the token of a source
abbrev pub token_step : List ℕ → ℕ → Token → ℕ
token_step source depth token = text_depth depth (token_text source token)

-- the depth after these tokens of a source
abbrev pub token_depth : List ℕ → ℕ → List Token → ℕ
token_depth source depth [] = depth
token_depth source depth (t ∷ ts) = token_depth source (token_step source depth t) ts
