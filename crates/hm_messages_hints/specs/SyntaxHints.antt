-- The facts about a token after others, with which no source begins.
use Rattle.std.specs.Prelude.{◌≡◌, ◌⊎◌, ℕ, ◌+◌, ◌-◌, ◌<◌, ◌≤◌, ⊤, Bool, true, false, ◌||◌, List, [], length, drop, take, slice_index_or, All, Some, codes}
use Rattle.hm_parse_grammar.specs.Reading.Patterns.{begins_apat}
use Rattle.hm_parse_grammar.specs.Reading.Types.{begins_atype}
use Rattle.hm_parse_grammar.specs.Symbols.{same}
use Rattle.hm_parse_grammar.specs.declared.symbol.Symbol.{Symbol}
use Rattle.hm_parse_grammar.specs.declared.symbol.Symbol.TheVariants.{Module, Import, Data, Newtype, TypeWord, OfType, Open, OpenSquare, LeftBrace, Close, CloseSquare, RightBrace, Semicolon, Comma, Where, Let, In, Of, If, Then, Else, Equals, Backslash, Bar, Arrow, Dots, Colon, At, Tilde, Wild, Var, Con, QCon, Integer, Character, Text, End}
use Rattle.hm_messages_outline.specs.Brackets.{IsInnermost, IsNoneOpen}
use Rattle.hm_messages_hints.specs.Features.{feature_of}
use Rattle.hm_messages_hints.specs.declared.features.Feature.{Feature}
use Rattle.hm_messages_hints.specs.declared.features.Feature.TheVariants.{Class, Instance, Deriving, Default, Do, Fixity, Context, Generator}
use Rattle.hm_messages_hints.specs.declared.syntax_hints.SyntaxHint.{SyntaxHint}
use Rattle.hm_messages_hints.specs.declared.syntax_hints.SyntaxHint.TheVariants.{NoHeader, ModuleEnded, NoBrace, LeftOut, Comprehension, Range, SmallName, AppliedVariable, Repaired, WherePart, NoElse, NotClosed, InPattern, Record, Update, NoAlternative, Unexpected, AppliedName, TypedPattern, ConsPattern, GuardAfterEquals, GuardArrow, ConstructorComma, NumberComma, WhereAfterSemicolon, NoThen, NewtypeArguments, LateQualified, AtSign, GuardAfterSemicolon, LateImport, ExtraComma, ElseGuard, Hole, EqualsInCondition, NoIn, SecondWhere, BraceGroup, GuardEquals}

abbrev pub wants_brace : Symbol → Bool
wants_brace Where = true
wants_brace Let = true
wants_brace Of = true
wants_brace _ = false

abbrev pub takes_capital : Symbol → Bool
takes_capital Module = true
takes_capital Import = true
takes_capital Data = true
takes_capital Newtype = true
takes_capital TypeWord = true
takes_capital _ = false

abbrev pub ends : Symbol → Bool
ends Semicolon = true
ends Close = true
ends CloseSquare = true
ends RightBrace = true
ends End = true
ends _ = false

-- an expression may end with the name or the bracket
abbrev pub ends_operand : Symbol → Bool
ends_operand Var = true
ends_operand Close = true
ends_operand _ = false

abbrev pub is_partner : Symbol → Symbol → Bool
is_partner Open s = same s Close
is_partner OpenSquare s = same s CloseSquare
is_partner LeftBrace s = same s RightBrace || same s Semicolon
is_partner _ s = false

-- a type follows these, in a signature or a declaration
abbrev pub begins_type : Symbol → Bool
begins_type OfType = true
begins_type Data = true
begins_type Newtype = true
begins_type TypeWord = true
begins_type _ = false

-- constructors follow these
abbrev pub begins_constructors : Symbol → Bool
begins_constructors Data = true
begins_constructors Newtype = true
begins_constructors _ = false

-- the constructor of a newtype follows this
abbrev pub begins_newtype : Symbol → Bool
begins_newtype Newtype = true
begins_newtype _ = false

-- the right side of a signature or of a declaration follows these
abbrev pub begins_right : Symbol → Bool
begins_right OfType = true
begins_right Equals = true
begins_right _ = false

-- these are in declarations, and in no import
abbrev pub begins_declaration : Symbol → Bool
begins_declaration Equals = true
begins_declaration OfType = true
begins_declaration Data = true
begins_declaration Newtype = true
begins_declaration TypeWord = true
begins_declaration _ = false

-- patterns follow these: in a declaration, an alternative or a lambda
abbrev pub begins_patterns : Symbol → Bool
begins_patterns Semicolon = true
begins_patterns LeftBrace = true
begins_patterns Backslash = true
begins_patterns _ = false

-- a pattern may end with these
abbrev pub ends_pattern : Symbol → Bool
ends_pattern Var = true
ends_pattern Con = true
ends_pattern QCon = true
ends_pattern Wild = true
ends_pattern Integer = true
ends_pattern Character = true
ends_pattern Text = true
ends_pattern Close = true
ends_pattern CloseSquare = true
ends_pattern _ = false

-- these end a guard, or what it is in. After the last two another mark comes first
abbrev pub ends_guard : Symbol → Bool
ends_guard Equals = true
ends_guard Arrow = true
ends_guard Semicolon = true
ends_guard LeftBrace = true
ends_guard RightBrace = true
ends_guard If = true
ends_guard Backslash = true
ends_guard _ = false

-- the symbols that types and the constructors of a declaration can have in them
abbrev pub is_of_type : Symbol → Bool
is_of_type Var = true
is_of_type Con = true
is_of_type QCon = true
is_of_type Open = true
is_of_type Close = true
is_of_type OpenSquare = true
is_of_type CloseSquare = true
is_of_type Comma = true
is_of_type Arrow = true
is_of_type Equals = true
is_of_type Bar = true
is_of_type _ = false

-- the symbols that patterns can have in them
abbrev pub is_of_pattern : Symbol → Bool
is_of_pattern Var = true
is_of_pattern Con = true
is_of_pattern QCon = true
is_of_pattern Wild = true
is_of_pattern Integer = true
is_of_pattern Character = true
is_of_pattern Text = true
is_of_pattern Open = true
is_of_pattern Close = true
is_of_pattern OpenSquare = true
is_of_pattern CloseSquare = true
is_of_pattern Comma = true
is_of_pattern Colon = true
is_of_pattern At = true
is_of_pattern Tilde = true
is_of_pattern _ = false

-- an expression follows these
abbrev pub begins_expression : Symbol → Bool
begins_expression Equals = true
begins_expression Arrow = true
begins_expression If = true
begins_expression Then = true
begins_expression Else = true
begins_expression In = true
begins_expression _ = false

-- a constructor follows these in a declaration
abbrev pub takes_constructor : Symbol → Bool
takes_constructor Equals = true
takes_constructor Bar = true
takes_constructor _ = false

abbrev pub at : List Symbol → ℕ → Symbol
at symbols k = slice_index_or symbols k End

abbrev pub last_of : List Symbol → Symbol
last_of symbols = at symbols (length symbols - 1)

-- the symbols end with a part of a type, which follows a symbol of this kind
pub record IsInType (begins : Symbol → Bool) (symbols : List Symbol) : Type 0 where
  pub start : ℕ
  pub within : start < length symbols
  pub begun : begins (at symbols start) ≡ true
  pub rest : All (λ s. is_of_type s ≡ true) (drop (start + 1) symbols)

-- a right side begins at this symbol or after it
pub record IsRightOf (symbols : List Symbol) (start : ℕ) : Type 0 where
  pub mark : ℕ
  pub after : start ≤ mark
  pub within : mark < length symbols
  pub begun : begins_right (at symbols mark) ≡ true

-- a declaration is among the symbols, and no module begins after it
pub record HasDeclaration (symbols : List Symbol) : Type 0 where
  pub start : ℕ
  pub within : start < length symbols
  pub begun : begins_declaration (at symbols start) ≡ true
  pub rest : All (λ s. same s Module ≡ false) (drop (start + 1) symbols)

-- the symbols end with a part of patterns
pub record IsInPatterns (symbols : List Symbol) : Type 0 where
  pub start : ℕ
  pub within : start < length symbols
  pub begun : begins_patterns (at symbols start) ≡ true
  pub rest : All (λ s. is_of_pattern s ≡ true) (drop (start + 1) symbols)

-- the symbols end with a guard, or a part of one, after the patterns of a declaration or of an alternative and after the bracket with this number
pub record IsInGuard (symbols : List Symbol) (bracket : ℕ) : Type 0 where
  pub bar : ℕ
  pub after : bracket < bar
  pub within : bar < length symbols
  pub begun : at symbols bar ≡ Bar
  pub patterns : IsInPatterns (take bar symbols)
  pub rest : All (λ s. ends_guard s ≡ false) (drop (bar + 1) symbols)

-- the symbol with this number is `if`, and no `then` follows it
pub record HasNoThen (symbols : List Symbol) (k : ℕ) : Type 0 where
  pub begun : at symbols k ≡ If
  pub rest : All (λ s. same s Then ≡ false) (drop (k + 1) symbols)

-- the symbol with this number is `if`, and no `else` follows it
pub record HasNoElse (symbols : List Symbol) (k : ℕ) : Type 0 where
  pub begun : at symbols k ≡ If
  pub rest : All (λ s. same s Else ≡ false) (drop (k + 1) symbols)

-- the symbols end with a `}`. It closes the `{` with this number, which follows this word
pub record ClosesAfter (word : Symbol) (symbols : List Symbol) (k : ℕ) : Type 0 where
  pub closing : last_of symbols ≡ RightBrace
  pub closed : IsInnermost (take (length symbols - 1) symbols) k
  pub opened : at symbols k ≡ LeftBrace
  pub after : at symbols (k - 1) ≡ word

-- the symbols end with a part of a pattern, which begins an alternative within the bracket with this number
pub record IsInAlternative (symbols : List Symbol) (bracket : ℕ) : Type 0 where
  pub of_case : at symbols (bracket - 1) ≡ Of
  pub brace : at symbols bracket ≡ LeftBrace
  pub start : ℕ
  pub within : bracket ≤ start
  pub begun : (start ≡ bracket) ⊎ (at symbols start ≡ Semicolon)
  pub rest : All (λ s. is_of_pattern s ≡ true) (drop (start + 1) symbols)

-- the part of Haskell can begin after these symbols. A context can only be in a type (Report, section 4.1.4)
abbrev pub IsPlaceOf : Feature → List Symbol → Type 0
IsPlaceOf Class before = ⊤
IsPlaceOf Instance before = ⊤
IsPlaceOf Deriving before = ⊤
IsPlaceOf Default before = ⊤
IsPlaceOf Do before = ⊤
IsPlaceOf Fixity before = ⊤
IsPlaceOf Context before = IsInType begins_type before
IsPlaceOf Generator before = ⊤

-- the hint holds for the token with this symbol and text, and for the symbols before it. A change isn't a fact about these: IsRepair defines when one works
abbrev pub IsSyntaxHint : List Symbol → Symbol → List ℕ → SyntaxHint → Type 0
IsSyntaxHint before this text NoHeader = before ≡ []
IsSyntaxHint before this text ModuleEnded = (last_of before ≡ RightBrace) × IsNoneOpen before
IsSyntaxHint before this text NoBrace = (wants_brace (last_of before) ≡ true) × (same this LeftBrace ≡ false)
IsSyntaxHint before this text (LeftOut f) = (feature_of text ≡ Some f) × IsPlaceOf f before
IsSyntaxHint before this text (Comprehension k) = IsInnermost before k × (at before k ≡ OpenSquare) × (this ≡ Bar)
IsSyntaxHint before this text (Range k) = IsInnermost before k × (at before k ≡ OpenSquare) × (this ≡ Dots)
IsSyntaxHint before this text SmallName = ((takes_capital (last_of before) ≡ true) ⊎ ((takes_constructor (last_of before) ≡ true) × IsInType begins_constructors before)) × (this ≡ Var)
IsSyntaxHint before this text AppliedVariable = (last_of before ≡ Var) × (begins_atype this ≡ true) × ((t : IsInType begins_type before) × IsRightOf before t.start)
IsSyntaxHint before this text (Repaired r) = ⊥
IsSyntaxHint before this text (WherePart k) = IsInnermost before k × ((at before k ≡ Open) ⊎ (at before k ≡ OpenSquare)) × (this ≡ Where)
IsSyntaxHint before this text (NoElse k) = (bracket : ℕ) × IsInnermost before bracket × (bracket < k) × HasNoElse before k × (ends this ≡ true)
IsSyntaxHint before this text (NotClosed k) = IsInnermost before k × (ends this ≡ true) × (is_partner (at before k) this ≡ false)
IsSyntaxHint before this text (InPattern k) = IsInnermost before k × IsInAlternative before k
IsSyntaxHint before this text Record = (last_of before ≡ Con) × (this ≡ LeftBrace)
IsSyntaxHint before this text Update = (ends_operand (last_of before) ≡ true) × (this ≡ LeftBrace)
IsSyntaxHint before this text NoAlternative = (last_of before ≡ LeftBrace) × (at before (length before - 2) ≡ Of) × (this ≡ RightBrace)
IsSyntaxHint before this text Unexpected = ⊤
IsSyntaxHint before this text (AppliedName k) = IsInnermost before k × ((at before k ≡ Open) ⊎ (at before k ≡ OpenSquare)) × IsInPatterns before × (last_of before ≡ Var) × (begins_apat this ≡ true)
IsSyntaxHint before this text TypedPattern = IsInPatterns before × (ends_pattern (last_of before) ≡ true) × (this ≡ OfType)
IsSyntaxHint before this text ConsPattern = IsInPatterns before × (ends_pattern (last_of before) ≡ true) × (this ≡ Colon)
IsSyntaxHint before this text GuardAfterEquals = (last_of before ≡ Equals) × (this ≡ Bar) × IsInPatterns (take (length before - 1) before)
IsSyntaxHint before this text (GuardArrow k) = IsInnermost before k × (at before k ≡ LeftBrace) × (same (at before (k - 1)) Of ≡ false) × IsInGuard before k × (this ≡ Arrow)
IsSyntaxHint before this text (ConstructorComma k) = IsInnermost before k × (at before k ≡ LeftBrace) × IsInType begins_constructors before × (this ≡ Comma)
IsSyntaxHint before this text NumberComma = (last_of before ≡ Integer) × (this ≡ Comma)
IsSyntaxHint before this text WhereAfterSemicolon = (last_of before ≡ Semicolon) × (this ≡ Where)
IsSyntaxHint before this text (NoThen k) = HasNoThen before k × (ends_operand (last_of before) ≡ true) × (this ≡ LeftBrace)
IsSyntaxHint before this text (NewtypeArguments k) = IsInnermost before k × (at before k ≡ LeftBrace) × ((t : IsInType begins_newtype before) × IsRightOf before t.start) × ((begins_atype this ≡ true) ⊎ (this ≡ Bar))
IsSyntaxHint before this text LateQualified = (at before (length before - 2) ≡ Import) × ((last_of before ≡ Con) ⊎ (last_of before ≡ QCon)) × (text ≡ codes "qualified")
IsSyntaxHint before this text AtSign = this ≡ At
IsSyntaxHint before this text GuardAfterSemicolon = (last_of before ≡ Semicolon) × (this ≡ Bar)
IsSyntaxHint before this text LateImport = (last_of before ≡ Semicolon) × (this ≡ Import) × HasDeclaration before
IsSyntaxHint before this text ExtraComma = (last_of before ≡ Comma) × ((this ≡ Close) ⊎ (this ≡ CloseSquare))
IsSyntaxHint before this text ElseGuard = (last_of before ≡ Bar) × (this ≡ Else)
IsSyntaxHint before this text Hole = this ≡ Wild
IsSyntaxHint before this text (EqualsInCondition k) = (bracket : ℕ) × IsInnermost before bracket × (bracket < k) × HasNoThen before k × (this ≡ Equals)
IsSyntaxHint before this text (NoIn k) = ClosesAfter Let before k × (same this In ≡ false)
IsSyntaxHint before this text (SecondWhere k) = ClosesAfter Where before k × (outer : ℕ) × IsInnermost before outer × (this ≡ Where)
IsSyntaxHint before this text BraceGroup = (begins_expression (last_of before) ≡ true) × (this ≡ LeftBrace)
IsSyntaxHint before this text (GuardEquals k) = IsInnermost before k × (at before k ≡ LeftBrace) × (same (at before (k - 1)) Of ≡ true) × IsInGuard before k × (this ≡ Equals)
