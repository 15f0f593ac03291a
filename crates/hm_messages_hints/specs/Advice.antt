-- The advice for a fault of syntax at a place of a source.
use Rattle.std.specs.Prelude.{◌≡◌, ◌≢◌, ◌⊎◌, ◌≤◌, ◌<◌, ℕ, zero, suc, List, [], ◌∷◌, Option, None, Some, length, map, take}
use Rattle.hm_lex.specs.declared.token.Place.{Place}
use Rattle.hm_lex.specs.declared.token.Token.{Token}
use Rattle.hm_lex.specs.Faults.{AreTokensOf}
use Rattle.hm_lex.specs.Texts.{token_text}
use Rattle.hm_parse_grammar.specs.declared.symbol.Symbol.{Symbol}
use Rattle.hm_parse_grammar.specs.declared.symbol.Symbol.TheVariants.{End}
use Rattle.hm_messages_hints.specs.Repairs.{IsRepair}
use Rattle.hm_messages_hints.specs.SyntaxHints.{IsSyntaxHint}
use Rattle.hm_messages_hints.specs.declared.syntax_hints.SyntaxHint.{SyntaxHint}
use Rattle.hm_messages_hints.specs.declared.syntax_hints.SyntaxHint.TheVariants.{NoHeader, ModuleEnded, NoBrace, LeftOut, Comprehension, Range, SmallName, AppliedVariable, Repaired, WherePart, NoElse, NotClosed, InPattern, Record, Update, NoAlternative, Unexpected, AppliedName, TypedPattern, ConsPattern, GuardAfterEquals, GuardArrow, ConstructorComma, NumberComma, WhereAfterSemicolon, NoThen, NewtypeArguments, LateQualified, AtSign, GuardAfterSemicolon, LateImport, ExtraComma, ElseGuard, Hole, EqualsInCondition, NoIn, SecondWhere, BraceGroup, GuardEquals}
use Rattle.hm_messages_outline.specs.Tokens.{symbol_in, IsAt}

-- the text of the token with this number, and its symbol. The end of the source comes after the last token
unfoldable pub text_at : List ℕ → List Token → ℕ → List ℕ
text_at source [] k = []
text_at source (t ∷ ts) zero = token_text source t
text_at source (t ∷ ts) (suc k) = text_at source ts k

unfoldable pub symbol_at : List ℕ → List Token → ℕ → Symbol
symbol_at source [] k = End
symbol_at source (t ∷ ts) zero = symbol_in source t
symbol_at source (t ∷ ts) (suc k) = symbol_at source ts k

-- the number of the token that a hint at this one is about
abbrev pub about : SyntaxHint → ℕ → ℕ
about (Repaired r) k = r.at
about NoHeader k = k
about ModuleEnded k = k
about NoBrace k = k
about (LeftOut f) k = k
about (Comprehension j) k = k
about (Range j) k = k
about SmallName k = k
about AppliedVariable k = k
about (WherePart j) k = k
about (NoElse j) k = k
about (InPattern j) k = k
about (NotClosed j) k = k
about Record k = k
about Update k = k
about NoAlternative k = k
about Unexpected k = k
about (AppliedName j) k = k
about TypedPattern k = k
about ConsPattern k = k
about GuardAfterEquals k = k
about (GuardArrow j) k = k
about (ConstructorComma j) k = k
about NumberComma k = k
about WhereAfterSemicolon k = k
about (NoThen j) k = k
about (NewtypeArguments j) k = k
about LateQualified k = k
about AtSign k = k
about GuardAfterSemicolon k = k
about LateImport k = k
about ExtraComma k = k
about ElseGuard k = k
about Hole k = k
about (EqualsInCondition j) k = k
about (NoIn j) k = k
about (SecondWhere j) k = k
about BraceGroup k = k
about (GuardEquals j) k = k

-- the hint holds at the token with this number: a change repairs the tokens, any other hint is a fact about the tokens up to this one
abbrev pub IsSo : List ℕ → List Token → ℕ → SyntaxHint → Type 0
IsSo source ts k (Repaired r) = IsRepair source ts r
IsSo source ts k hint = IsSyntaxHint (map (symbol_in source) (take k ts)) (symbol_at source ts k) (text_at source ts k) hint

-- the place of the token with number `at`, if it isn't token number k. The end of the source has no token
abbrev pub IsElsewhere : List Token → ℕ → ℕ → Option Place → Type 0
IsElsewhere tokens k at None = (at ≡ k) ⊎ (length tokens ≤ at)
IsElsewhere tokens k at (Some p) = (at ≢ k) × (at < length tokens) × IsAt tokens p at

-- the hint holds at the source's token at the place, the text is that of the token that it is about, and its place is named if it is another one
pub record IsAdviceAt (source : List ℕ) (place : Place) (hint : SyntaxHint) (text : List ℕ) (elsewhere : Option Place) : Type 0 where
  pub tokens : List Token
  pub read : AreTokensOf source tokens
  pub number : ℕ
  pub at : IsAt tokens place number
  pub holds : IsSo source tokens number hint
  pub text_is : text ≡ text_at source tokens (about hint number)
  pub elsewhere_is : IsElsewhere tokens number (about hint number) elsewhere
