-- Reading constructors and literals (Haskell 98 Report, section 3.2). No public clause names these.
use Rattle.std.specs.Prelude.{◌≡◌, ℕ, suc, List, [], ◌∷◌, Bool, true, false, nat_le, Some, None, if◌then◌else◌, codes}
use Rattle.hm_lex.specs.declared.token.Place.{Place}
use Rattle.hm_syntax.specs.Names.{Identifier, LiteralTree, integer, character, string}
use Rattle.hm_parse_grammar.specs.declared.symbol.Symbol.{Symbol}
use Rattle.hm_parse_grammar.specs.declared.symbol.Symbol.TheVariants.{Open, Close, OpenSquare, CloseSquare, Comma, Colon, Con, QCon, Integer, Character, Text}
use Rattle.hm_parse_grammar.specs.Symbols.{same}
use Rattle.hm_parse_grammar.specs.Tokens.{Terminal}
use Rattle.hm_parse_grammar.specs.Grammar.Patterns.{tuple_text}
use Rattle.hm_parse_grammar.specs.Reading.Basics.{◌>>=◌, Reader, peek, tail, expect, name_at, module_name_at}

-- `(` and this symbol begin a constructor
abbrev pub is_mark : Symbol → Bool
is_mark Close = true
is_mark Comma = true
is_mark Colon = true
is_mark _ = false

-- the first two symbols of a constructor
abbrev pub begin_gcon : Symbol → Symbol → Bool
begin_gcon Con second = true
begin_gcon QCon second = true
begin_gcon Open second = is_mark second
begin_gcon OpenSquare second = same second CloseSquare
begin_gcon _ second = false

unfoldable pub begins_gcon : List Terminal → Bool
begins_gcon ts = begin_gcon (peek ts) (peek (tail ts))

-- the number of commas here, and the tokens after them
unfoldable pub marks : List Terminal → ℕ × List Terminal
marks [] = (0, [])
marks (k ∷ ts) = if same k.symbol Comma then (suc (marks ts).0, (marks ts).1) else (0, k ∷ ts)

abbrev pub line_at : List Terminal → ℕ
line_at [] = 0
line_at (k ∷ ts) = k.line

abbrev pub column_at : List Terminal → ℕ
column_at [] = 0
column_at (k ∷ ts) = k.column

-- this is the place of the first token
abbrev pub IsPlaceAt : List Terminal → Place → Type 0
IsPlaceAt [] place = Unit {0}
IsPlaceAt (k ∷ ts) place = (place.line ≡ k.line) × (place.column ≡ k.column)

-- a special constructor whose first token is the next
abbrev pub special_at : List ℕ → List Terminal → Identifier
special_at text ts = record { qualifier = None; text = text; line = line_at ts; column = column_at ts }

-- the number of commas here, unless they are too many
unfoldable pub commas_at : Reader ℕ
commas_at ts = if nat_le (marks ts).0 14 then Some (marks ts) else None

abbrev pub mark_by : Symbol → Reader (List ℕ)
mark_by Close ts = Some (codes "()", tail ts)
mark_by Colon ts = do
  us ← expect Close (tail ts)
  Some (codes ":", us)
mark_by Comma ts = do
  n ← commas_at ts
  us ← expect Close n.1
  Some (tuple_text n.0, us)
mark_by _ ts = None

-- the text of a special constructor after its `(`
unfoldable pub mark_at : Reader (List ℕ)
mark_at ts = mark_by (peek ts) ts

abbrev pub gcon_by : Symbol → Reader Identifier
gcon_by Con ts = name_at ts
gcon_by QCon ts = name_at ts
gcon_by Open ts = do
  text ← mark_at (tail ts)
  Some (special_at text.0 ts, text.1)
gcon_by OpenSquare ts = do
  us ← expect CloseSquare (tail ts)
  Some (special_at (codes "[]") ts, us)
gcon_by _ ts = None

unfoldable pub gcon_at : Reader Identifier
gcon_at ts = gcon_by (peek ts) ts

abbrev pub literal_by : Symbol → Reader LiteralTree
literal_by Integer ts = do
  n ← module_name_at ts
  Some (integer n.0.text, n.1)
literal_by Character ts = do
  n ← module_name_at ts
  Some (character n.0.text, n.1)
literal_by Text ts = do
  n ← module_name_at ts
  Some (string n.0.text, n.1)
literal_by _ ts = None

unfoldable pub literal_at : Reader LiteralTree
literal_at ts = literal_by (peek ts) ts
