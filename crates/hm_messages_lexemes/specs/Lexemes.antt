-- Lexical faults after the first one of a source (Haskell 98 Report, sections 2.2, 2.4 and 2.5).
use Rattle.std.specs.Prelude.{◌≡◌, ◌⊎◌, ◌||◌, ◌==◌, ⊤, ℕ, Bool, List, [], ◌∷◌, ◌++◌, map}
use Rattle.hm_lex.specs.Bytes.{is_digit, is_name_byte, is_symbol}
use Rattle.hm_lex.specs.Cut.{place_after}
use Rattle.hm_lex.specs.Faults.{IsRefusal}
use Rattle.hm_lex.specs.Runs.{FirstFails, IsRunOf}
use Rattle.hm_lex.specs.Symbols.{IsDashes}
use Rattle.hm_lex.specs.declared.token.LexFault.TheVariants.{Lexeme}
use Rattle.hm_lex.specs.declared.token.Place.{Place}

-- an operator in front of these bytes: all symbols up to another byte. Two or more dashes begin a comment instead
abbrev pub IsOperatorBefore : List ℕ → List ℕ → Type 0
IsOperatorBefore text after = IsRunOf is_symbol text × FirstFails is_symbol after × ¬ IsDashes text

-- letters, digits, `_`, `'` and dots
abbrev pub is_dotted : ℕ → Bool
is_dotted b = is_name_byte b || b == 46

-- a name, perhaps a qualified one, between backquotes
abbrev pub IsBackquoted : List ℕ → Type 0
IsBackquoted text = (name : List ℕ) × IsRunOf is_dotted name × (text ≡ 96 ∷ (name ++ 96 ∷ []))

-- a number with a fraction, and without an exponent, in front of these bytes
abbrev pub IsFractionBefore : List ℕ → List ℕ → Type 0
IsFractionBefore text after =
    (whole : List ℕ) × (part : List ℕ) × IsRunOf is_digit whole × IsRunOf is_digit part × (text ≡ whole ++ 46 ∷ part) × FirstFails is_name_byte after

-- a text in front of these bytes that is an operator, a name between backquotes or a number with a fraction
abbrev pub IsForeignLexeme : List ℕ → List ℕ → Type 0
IsForeignLexeme text after = IsOperatorBefore text after ⊎ (IsBackquoted text ⊎ IsFractionBefore text after)

-- the other source has blanks in place of such a text at a place
pub record IsBlankedAt (source : List ℕ) (place : Place) (other : List ℕ) : Type 0 where
  pub before : List ℕ
  pub text : List ℕ
  pub after : List ℕ
  pub source_is : source ≡ before ++ (text ++ after)
  pub placed : place ≡ place_after before
  pub foreign : IsForeignLexeme text after
  pub other_is : other ≡ before ++ (map (λ b. 32) text ++ after)

-- lexical faults after the one at a place: each is the first fault of the source if there are blanks in place of the texts at all places before it
abbrev pub AreLaterLexemes : List ℕ → Place → List Place → Type 0
AreLaterLexemes source place [] = ⊤
AreLaterLexemes source place (p ∷ ps) = (other : List ℕ) × IsBlankedAt source place other × IsRefusal other (Lexeme p) × AreLaterLexemes other p ps
