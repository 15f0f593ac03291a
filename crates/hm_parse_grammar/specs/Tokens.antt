-- Tokens, as the grammar sees them.
use Rattle.std.specs.Prelude.{ℕ, ◌-◌, ◌==◌, Bool, not, List, length, take, drop, map, Option, None, Some, if◌then◌else◌}
use Rattle.std.specs.List.{suffix_len}
use Rattle.hm_lex.specs.declared.token.Place.{Place}
use Rattle.hm_lex.specs.declared.token.Token.{Token}
use Rattle.hm_lex.specs.Texts.{token_text}
use Rattle.hm_syntax.specs.Names.{Identifier}
use Rattle.hm_parse_grammar.specs.declared.symbol.Symbol.{Symbol}
use Rattle.hm_parse_grammar.specs.Symbols.{symbol_of}

pub record Terminal : Type 0 where
  pub symbol : Symbol
  pub text : List ℕ
  pub line : ℕ
  pub column : ℕ

abbrev pub terminal_of : List ℕ → Token → Terminal
terminal_of source t = record { symbol = symbol_of t.kind (token_text source t); text = token_text source t; line = t.place.line; column = t.place.column }

abbrev pub terminals : List ℕ → List Token → List Terminal
terminals source ts = map (terminal_of source) ts

-- ---- names

abbrev pub is_of_part : ℕ → Bool
is_of_part b = not (b == 46)

-- the length of the last part of a name, which comes after its last dot
abbrev pub last_len : List ℕ → ℕ
last_len text = suffix_len is_of_part text

abbrev pub last_part : List ℕ → List ℕ
last_part text = drop (length text - last_len text) text

-- the part before the last dot
abbrev pub qualifier_of : List ℕ → Option (List ℕ)
qualifier_of text = if length text - last_len text == 0 then None else Some (take (length text - last_len text - 1) text)

abbrev pub name_in : List ℕ → Place → Identifier
name_in text place = record { qualifier = qualifier_of text; text = last_part text; line = place.line; column = place.column }

-- the name with the text of a token
abbrev pub name_of : Terminal → Identifier
name_of k = record { qualifier = qualifier_of k.text; text = last_part k.text; line = k.line; column = k.column }

-- the name of a module
abbrev pub modid_of : Terminal → Identifier
modid_of k = record { qualifier = None; text = k.text; line = k.line; column = k.column }
