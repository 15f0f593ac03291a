-- Character and string literals (Haskell 98 Report, section 2.6).
use Rattle.std.specs.Prelude.{◌≡◌, ◌≢◌, ◌⊎◌, ℕ, ◌≤◌, Bool, List, [], ◌∷◌, ◌++◌, IsTrue, codes, encode_utf8}
use Rattle.std.specs.Char.{IsScalar}
use Rattle.std.specs.Str.Parse.{digits_value}
use Rattle.hm_lex.specs.Bytes.{is_one_of, is_digit, is_white, is_octal_digit, is_hexadecimal_digit}
use Rattle.hm_lex.specs.Runs.{IsRunOf, FirstFails}

-- a character of code 32 or more that is neither this quote nor a backslash
abbrev pub IsPlainCharacter : ℕ → List ℕ → Type 0
IsPlainCharacter quote text =
    (c : ℕ) × IsScalar c × (32 ≤ c) × (c ≢ quote) × (c ≢ 92) × (text ≡ encode_utf8 c)

-- a backslash and one of these
abbrev pub IsSimpleEscape : List ℕ → Type 0
IsSimpleEscape text = (b : ℕ) × IsTrue (is_one_of (codes "abfnrtv\\\"'") b) × (text ≡ 92 ∷ b ∷ [])

-- the greatest code of a character
abbrev pub max_code : ℕ
max_code = 1114111

-- a backslash, a mark, and all digits that follow; `rest` comes after them
abbrev pub IsNumericEscape : List ℕ → ℕ → (ℕ → Bool) → List ℕ → List ℕ → Type 0
IsNumericEscape mark base test text rest =
    (digits : List ℕ) × IsRunOf test digits × FirstFails test rest × (digits_value base digits ≤ max_code) × (text ≡ 92 ∷ mark ++ digits)

abbrev pub IsEscape : List ℕ → List ℕ → Type 0
IsEscape text rest =
    IsSimpleEscape text
    ⊎ IsNumericEscape [] 10 is_digit text rest
    ⊎ IsNumericEscape (codes "o") 8 is_octal_digit text rest
    ⊎ IsNumericEscape (codes "x") 16 is_hexadecimal_digit text rest

-- one character between these quotes; `rest` comes after it
abbrev pub IsCharacterItem : ℕ → List ℕ → List ℕ → Type 0
IsCharacterItem quote text rest = IsPlainCharacter quote text ⊎ IsEscape text rest

-- two backslashes with white space between them
abbrev pub IsGap : List ℕ → Type 0
IsGap text = (white : List ℕ) × IsRunOf is_white white × (text ≡ 92 ∷ white ++ 92 ∷ [])

abbrev pub IsStringItem : List ℕ → List ℕ → Type 0
IsStringItem text rest = IsCharacterItem 34 text rest ⊎ (text ≡ codes "\\&") ⊎ IsGap text

-- the rest of a string after its first quote, including the last quote
pub data IsStringRest : List ℕ → Type 0 where
  ends : {text : List ℕ} → text ≡ 34 ∷ [] → IsStringRest text
  item : {text : List ℕ} (first rest : List ℕ) → IsStringItem first rest → IsStringRest rest → text ≡ first ++ rest → IsStringRest text

abbrev pub IsString : List ℕ → Type 0
IsString text = (rest : List ℕ) × IsStringRest rest × (text ≡ 34 ∷ rest)

abbrev pub IsCharacter : List ℕ → Type 0
IsCharacter text = (item : List ℕ) × IsCharacterItem 39 item (39 ∷ []) × (text ≡ 39 ∷ item ++ 39 ∷ [])
