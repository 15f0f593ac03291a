-- The symbol of a token, and the token at a place.
use Rattle.std.specs.Prelude.{◌≡◌, ℕ, ◌<◌, ◌≤◌, List, length, get_or}
use Rattle.hm_lex.specs.declared.token.Place.{Place}
use Rattle.hm_lex.specs.declared.token.Token.{Token}
use Rattle.hm_lex.specs.Texts.{token_text}
use Rattle.hm_parse_grammar.specs.Symbols.{symbol_of}
use Rattle.hm_parse_grammar.specs.declared.symbol.Symbol.{Symbol}

abbrev pub symbol_in : List ℕ → Token → Symbol
symbol_in source t = symbol_of t.kind (token_text source t)

-- the token with this number is at the place, or there is none
pub record IsAt (ts : List Token) (place : Place) (number : ℕ) : Type 0 where
  pub within : number ≤ length ts
  pub stands : (d : Token) → number < length ts → (get_or ts number d).place ≡ place
