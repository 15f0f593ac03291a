-- The shapes of texts: white space, comments, lexemes of each kind, and malformed items (Haskell 98 Report, section 2.2).
use Rattle.std.specs.Prelude.{◌≡◌, ◌⊎◌, ℕ, List, [], ◌∷◌, IsFalse, codes}
use Rattle.std.specs.Str.{IsUtf8}
use Rattle.hm_lex.specs.declared.byte_class.ByteClass.TheVariants.{White, Special}
use Rattle.hm_lex.specs.declared.token.Kind.{Kind}
use Rattle.hm_lex.specs.declared.token.Kind.TheVariants.{Word, VarId, ConId, QVarId, QConId, Op, Integer, Character, Str}
use Rattle.hm_lex.specs.Bytes.{class_of, is_symbol}
use Rattle.hm_lex.specs.declared.token.Kind.TheVariants as kind
use Rattle.hm_lex.specs.Runs.{IsRunOf}
use Rattle.hm_lex.specs.Names.{IsCapitalName, IsVariable, IsReservedWord, IsQualified}
use Rattle.hm_lex.specs.Symbols.{IsDashes, is_operator, IsOperator}
use Rattle.hm_lex.specs.Integers.{IsDecimal, IsHexadecimal, IsOctal, IsFractional}
use Rattle.hm_lex.specs.Comments.{IsComment}
use Rattle.hm_lex.specs.Quotes.{IsString, IsCharacter}

abbrev pub HasKind : Kind → List ℕ → Type 0
HasKind Word text = IsReservedWord text
HasKind VarId text = IsVariable text
HasKind ConId text = IsCapitalName text
HasKind QVarId text = IsQualified IsVariable text
HasKind QConId text = IsQualified IsCapitalName text
HasKind Op text = IsOperator text
HasKind kind.Special text = (b : ℕ) × (class_of b ≡ Special) × (text ≡ b ∷ [])
HasKind Integer text = IsDecimal text ⊎ IsHexadecimal text ⊎ IsOctal text
HasKind Character text = IsCharacter text
HasKind Str text = IsString text

-- the shape of a text: an item of a cut, or a malformed item, which is read as one but isn't allowed
pub data Shape : Type 0 where
  white_space : Shape
  comment : Shape
  lexeme : Kind → Shape
  malformed : Shape

-- a run of symbols that is neither an operator nor dashes
abbrev pub IsStrangeRun : List ℕ → Type 0
IsStrangeRun text = IsRunOf is_symbol text × IsFalse (is_operator text) × (IsDashes text → ⊥)

abbrev pub IsMalformed : List ℕ → Type 0
IsMalformed text =
    IsStrangeRun text
    ⊎ IsFractional text
    ⊎ IsQualified IsReservedWord text
    ⊎ (text ≡ codes "{-")
    ⊎ (IsComment text × (IsUtf8 text → ⊥))

abbrev pub HasShape : Shape → List ℕ → Type 0
HasShape white_space text = (b : ℕ) × (class_of b ≡ White) × (text ≡ b ∷ [])
HasShape comment text = IsComment text × IsUtf8 text
HasShape (lexeme k) text = HasKind k text
HasShape malformed text = IsMalformed text
