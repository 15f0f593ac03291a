-- Worked examples: symbols that end within a type, after the definitions of a `let`, after an `if` without `then` or `else`, and within patterns, guards and alternatives.
use Rattle.std.specs.Prelude.{◌≡◌, true, false, List, [], ◌∷◌}
use Rattle.hm_parse_grammar.specs.declared.symbol.Symbol.{Symbol}
use Rattle.hm_parse_grammar.specs.declared.symbol.Symbol.TheVariants.{Backslash, Bar, Data, Import, OfType, If, Then, Else, Of, Open, Let, LeftBrace, RightBrace, Semicolon, Where, Equals, Arrow, Var, Con, Integer}
use Rattle.hm_messages_hints.specs.LexemeHints.{is_left_open}
use Rattle.hm_messages_hints.specs.SyntaxHints.{ClosesAfter, HasDeclaration, HasNoElse, HasNoThen, IsInAlternative, IsInGuard, IsInPatterns, IsInType, IsPlaceOf, IsRightOf, begins_type}
use Rattle.hm_messages_hints.specs.declared.features.Feature.TheVariants.{Context}

-- `data T = C a`
abbrev pub declared : List Symbol
declared = Data ∷ Con ∷ Equals ∷ Con ∷ Var ∷ []

-- `x :: T ; y`
abbrev pub ended : List Symbol
ended = Var ∷ OfType ∷ Con ∷ Semicolon ∷ Var ∷ []

-- the constructor's arguments are within a type. A name after a signature's `;` isn't
pub record TypeRow : Type 0 where
  pub within : IsInType begins_type declared
  pub after : ¬ (IsInType begins_type ended)

-- `if x then 1`, and the same with `else`
pub record ElseRow : Type 0 where
  pub without : HasNoElse (If ∷ Var ∷ Then ∷ Integer ∷ []) 0
  pub with_else : ¬ (HasNoElse (If ∷ Var ∷ Then ∷ Integer ∷ Else ∷ []) 0)

-- `of { C x` is within a pattern, `of { x -> y` isn't
pub record AlternativeRow : Type 0 where
  pub within : IsInAlternative (Of ∷ LeftBrace ∷ Con ∷ Var ∷ []) 1
  pub after : ¬ (IsInAlternative (Of ∷ LeftBrace ∷ Var ∷ Arrow ∷ Var ∷ []) 1)

-- `if x`, and the same with `then`
pub record ThenRow : Type 0 where
  pub without : HasNoThen (If ∷ Var ∷ []) 0
  pub with_then : ¬ (HasNoThen (If ∷ Var ∷ Then ∷ []) 0)

-- `{ f (g`
abbrev pub applied : List Symbol
applied = LeftBrace ∷ Var ∷ Open ∷ Var ∷ []

-- `{ f = g`
abbrev pub defined : List Symbol
defined = LeftBrace ∷ Var ∷ Equals ∷ Var ∷ []

-- the arguments of a definition are patterns, and what is after its `=` isn't
pub record PatternsRow : Type 0 where
  pub within : IsInPatterns applied
  pub after : ¬ (IsInPatterns defined)

-- `{ f | x`
abbrev pub guarded : List Symbol
guarded = LeftBrace ∷ Var ∷ Bar ∷ Var ∷ []

-- `{ f | x =`
abbrev pub guarded_before : List Symbol
guarded_before = LeftBrace ∷ Var ∷ Bar ∷ Var ∷ Equals ∷ []

-- a guard ends at its `=`. It isn't after a bracket within it
pub record GuardRow : Type 0 where
  pub within : IsInGuard guarded 0
  pub after : ¬ (IsInGuard guarded_before 0)
  pub inside : ¬ (IsInGuard guarded 3)

-- in `data T a` no right side has begun, and in `data T = C a` it has
pub record RightRow : Type 0 where
  pub within : IsRightOf declared 0
  pub before : ¬ (IsRightOf (Data ∷ Con ∷ Var ∷ []) 0)

-- a declaration is before `;` in `{ x = y ;`, and none is in `{ import M ;`
pub record DeclarationRow : Type 0 where
  pub after : HasDeclaration (LeftBrace ∷ Var ∷ Equals ∷ Var ∷ Semicolon ∷ [])
  pub imports : ¬ (HasDeclaration (LeftBrace ∷ Import ∷ Con ∷ Semicolon ∷ []))

-- `let { }`
abbrev pub bound : List Symbol
bound = Let ∷ LeftBrace ∷ RightBrace ∷ []

-- its `}` closes the `{` of a `let`, which is no `where`. In `let {` no brace is closed
pub record ClosedRow : Type 0 where
  pub closed : ClosesAfter Let bound 1
  pub other_word : ¬ (ClosesAfter Where bound 1)
  pub unclosed : ¬ (ClosesAfter Let (Let ∷ LeftBrace ∷ []) 1)

-- a context can be after `x :: T a`, and not after a lambda's `\x`
pub record PlaceRow : Type 0 where
  pub signed : IsPlaceOf Context (Var ∷ OfType ∷ Con ∷ Var ∷ [])
  pub bound : ¬ (IsPlaceOf Context (Backslash ∷ Var ∷ []))

-- `a\" }` isn't closed, because its quote is in an escape. `\q\\"` is, and so is `\  \"`, which has a gap. `a\` may go on in the next line
pub record StringRow : Type 0 where
  pub escaped : is_left_open (97 ∷ 92 ∷ 34 ∷ 32 ∷ 125 ∷ []) ≡ true
  pub closed : is_left_open (92 ∷ 113 ∷ 92 ∷ 92 ∷ 34 ∷ []) ≡ false
  pub gap : is_left_open (92 ∷ 32 ∷ 32 ∷ 92 ∷ 34 ∷ []) ≡ false
  pub goes_on : is_left_open (97 ∷ 92 ∷ []) ≡ false
