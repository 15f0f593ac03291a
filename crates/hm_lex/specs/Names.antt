-- Names, reserved words and qualified names (Haskell 98 Report, section 2.4).
use Rattle.std.specs.Prelude.{◌≡◌, ℕ, ◌<◌, Bool, List, [], ◌∷◌, ◌++◌, length, IsTrue, IsFalse, codes}
use Rattle.std.specs.List.{AllByRecursion, list_any, flat_map}
use Rattle.std.specs.Str.{bytes_eq}
use Rattle.hm_lex.specs.declared.byte_class.ByteClass.{ByteClass}
use Rattle.hm_lex.specs.declared.byte_class.ByteClass.TheVariants.{Small, Capital}
use Rattle.hm_lex.specs.Bytes.{class_of, is_name_byte}

-- a first byte of the class, and any name bytes
abbrev pub IsNameFrom : ByteClass → List ℕ → Type 0
IsNameFrom class [] = ⊥
IsNameFrom class (b ∷ bs) = (class_of b ≡ class) × AllByRecursion (λ c. IsTrue (is_name_byte c)) bs

abbrev pub reserved_words : List (List ℕ)
reserved_words =
    codes "case" ∷ codes "class" ∷ codes "data" ∷ codes "default" ∷ codes "deriving" ∷ codes "do" ∷ codes "else" ∷ codes "if"
    ∷ codes "import" ∷ codes "in" ∷ codes "infix" ∷ codes "infixl" ∷ codes "infixr" ∷ codes "instance" ∷ codes "let" ∷ codes "module"
    ∷ codes "newtype" ∷ codes "of" ∷ codes "then" ∷ codes "type" ∷ codes "where" ∷ codes "_" ∷ []

unfoldable pub is_reserved : List ℕ → Bool
is_reserved text = list_any (λ word. bytes_eq word text) reserved_words

abbrev pub IsCapitalName : List ℕ → Type 0
IsCapitalName text = IsNameFrom Capital text

abbrev pub IsVariable : List ℕ → Type 0
IsVariable text = IsNameFrom Small text × IsFalse (is_reserved text)

abbrev pub IsReservedWord : List ℕ → Type 0
IsReservedWord text = IsNameFrom Small text × IsTrue (is_reserved text)

-- the qualifiers, a dot after each, and the last part
abbrev pub dotted : List ℕ → List ℕ
dotted name = name ++ 46 ∷ []

abbrev pub qualified : List (List ℕ) → List ℕ → List ℕ
qualified qualifiers last = flat_map dotted qualifiers ++ last

-- at least one capital name, each with a dot after it, and a last part for which Last holds
abbrev pub IsQualified : (List ℕ → Type 0) → List ℕ → Type 0
IsQualified Last text =
    (qualifiers : List (List ℕ)) × (last : List ℕ)
    × (0 < length qualifiers) × AllByRecursion IsCapitalName qualifiers × Last last × (text ≡ qualified qualifiers last)
