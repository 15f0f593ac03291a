-- The facts about the rest of a line with which no lexeme begins.
use Rattle.std.specs.Prelude.{◌≡◌, ℕ, ◌<◌, ◌≤◌, ◌==◌, Bool, true, false, List, [], ◌∷◌, ◌⊎◌, ⊤, if◌then◌else◌, take_while}
use Rattle.std.specs.List.{prefix_len}
use Rattle.hm_lex.specs.Bytes.{is_symbol, is_white}
use Rattle.hm_lex.specs.Symbols.{is_dash}
use Rattle.hm_messages_hints.specs.declared.lexeme_hints.LexemeHint.{LexemeHint}
use Rattle.hm_messages_hints.specs.declared.lexeme_hints.StringPart.{StringPart}
use Rattle.hm_messages_hints.specs.declared.lexeme_hints.StringPart.TheVariants.{Text, Escape, Gap}
use Rattle.hm_messages_hints.specs.declared.lexeme_hints.LexemeHint.TheVariants.{ByteOrderMark, Backquote, OpenString, StringItem, Character, Fraction, ReservedName, Comment, Dashes, Operator, NotAscii, NoText, CurlyQuote}

-- the first byte is between these
abbrev pub BeginsBetween : ℕ → ℕ → List ℕ → Type 0
BeginsBetween low high rest = (b : ℕ) × (bs : List ℕ) × (rest ≡ b ∷ bs) × (low ≤ b) × (b ≤ high)

-- what follows a byte of a string: `\` begins an escape, and white space right after it a gap, which another `\` ends (Report, section 2.6)
abbrev pub next_in : StringPart → ℕ → StringPart
next_in Text b = if b == 92 then Escape else Text
next_in Escape b = if is_white b then Gap else Text
next_in Gap b = if b == 92 then Text else Gap

-- a quote ends a string, if it is in no escape
abbrev pub is_end : StringPart → ℕ → Bool
is_end Text b = b == 34
is_end Escape b = false
is_end Gap b = false

abbrev pub is_text : StringPart → Bool
is_text Text = true
is_text Escape = false
is_text Gap = false

-- a string that begins before these bytes goes on through all of them, and no gap is open after them
unfoldable pub goes_on : StringPart → List ℕ → Bool
goes_on part [] = is_text part
goes_on part (b ∷ bs) = if is_end part b then false else goes_on (next_in part b) bs

-- a string isn't closed in the rest of its line
abbrev pub is_left_open : List ℕ → Bool
is_left_open line = goes_on Text line

-- what the hint says of the text. A curly quote is one of the characters from U+2018 to U+201D
abbrev pub IsLexemeHint : List ℕ → LexemeHint → Type 0
IsLexemeHint rest ByteOrderMark = (bs : List ℕ) × (rest ≡ 239 ∷ 187 ∷ 191 ∷ bs)
IsLexemeHint rest Backquote = (bs : List ℕ) × (rest ≡ 96 ∷ bs)
IsLexemeHint rest OpenString = (bs : List ℕ) × (rest ≡ 34 ∷ bs) × (is_left_open bs ≡ true)
IsLexemeHint rest StringItem = (bs : List ℕ) × (rest ≡ 34 ∷ bs)
IsLexemeHint rest Character = (bs : List ℕ) × (rest ≡ 39 ∷ bs)
IsLexemeHint rest Fraction = BeginsBetween 48 57 rest
IsLexemeHint rest ReservedName = BeginsBetween 65 90 rest
IsLexemeHint rest Comment = (bs : List ℕ) × ((rest ≡ 123 ∷ bs) ⊎ ((rest ≡ 45 ∷ 45 ∷ bs) × (prefix_len is_symbol rest ≤ prefix_len is_dash rest)))
IsLexemeHint rest Dashes = (bs : List ℕ) × (rest ≡ 45 ∷ 45 ∷ bs) × (prefix_len is_dash rest < prefix_len is_symbol rest)
IsLexemeHint rest Operator = (b : ℕ) × (bs : List ℕ) × (rest ≡ b ∷ bs) × (is_symbol b ≡ true)
IsLexemeHint rest NotAscii = BeginsBetween 128 255 rest
IsLexemeHint rest NoText = ⊤
IsLexemeHint rest CurlyQuote = (b : ℕ) × (bs : List ℕ) × (rest ≡ 226 ∷ 128 ∷ b ∷ bs) × (152 ≤ b) × (b ≤ 157)

-- the operator that a hint is about: all symbols at the front (Report, section 2.2). Other hints aren't about an operator
abbrev pub operator_in : List ℕ → LexemeHint → List ℕ
operator_in rest ByteOrderMark = []
operator_in rest Backquote = []
operator_in rest OpenString = []
operator_in rest StringItem = []
operator_in rest Character = []
operator_in rest Fraction = []
operator_in rest ReservedName = []
operator_in rest Comment = []
operator_in rest Dashes = take_while is_symbol rest
operator_in rest Operator = take_while is_symbol rest
operator_in rest NotAscii = []
operator_in rest NoText = []
operator_in rest CurlyQuote = []
