-- Integer literals, and malformed texts that begin like one (Haskell 98 Report, section 2.5).
use Rattle.std.specs.Prelude.{◌≡◌, ◌⊎◌, ℕ, Bool, List, [], ◌∷◌, ◌++◌, IsTrue, codes}
use Rattle.hm_lex.specs.Bytes.{is_one_of, is_digit, is_octal_digit, is_hexadecimal_digit}
use Rattle.hm_lex.specs.Runs.{IsRunOf}

abbrev pub IsDecimal : List ℕ → Type 0
IsDecimal text = IsRunOf is_digit text

-- a 0, a mark, and one or more digits
abbrev pub IsMarkedNumber : List ℕ → (ℕ → Bool) → List ℕ → Type 0
IsMarkedNumber marks test text =
    (mark : ℕ) × (digits : List ℕ) × IsTrue (is_one_of marks mark) × IsRunOf test digits × (text ≡ 48 ∷ mark ∷ digits)

abbrev pub IsHexadecimal : List ℕ → Type 0
IsHexadecimal text = IsMarkedNumber (codes "xX") is_hexadecimal_digit text

abbrev pub IsOctal : List ℕ → Type 0
IsOctal text = IsMarkedNumber (codes "oO") is_octal_digit text

abbrev pub IsSign : List ℕ → Type 0
IsSign text = (text ≡ []) ⊎ (text ≡ codes "+") ⊎ (text ≡ codes "-")

-- a dot and a digit
abbrev pub IsFraction : List ℕ → Type 0
IsFraction text = (digit : ℕ) × IsTrue (is_digit digit) × (text ≡ 46 ∷ digit ∷ [])

-- an e, a sign or none, and a digit
abbrev pub IsExponent : List ℕ → Type 0
IsExponent text =
    (mark : ℕ) × (sign : List ℕ) × (digit : ℕ)
    × IsTrue (is_one_of (codes "eE") mark) × IsSign sign × IsTrue (is_digit digit) × (text ≡ mark ∷ sign ++ digit ∷ [])

-- a decimal with a fraction or an exponent
abbrev pub IsFractional : List ℕ → Type 0
IsFractional text =
    (digits : List ℕ) × (more : List ℕ) × IsDecimal digits × (IsFraction more ⊎ IsExponent more) × (text ≡ digits ++ more)
