-- The item at the front of some bytes. No public clause names these.
use Rattle.std.specs.Prelude.{◌≡◌, ℕ, ◌≤◌, Bool, true, false, List, [], ◌∷◌, ◌++◌, length, take, drop, IsTrue, nat_le, not, slice_index, codes, ◌==◌, ◌||◌, ◌&&◌, if◌then◌else◌, Option, Some, None}
use Rattle.std.specs.List.{prefix_len, list_all}
use Rattle.hm_lex.specs.declared.byte_class.ByteClass.{ByteClass}
use Rattle.hm_lex.specs.declared.byte_class.ByteClass.TheVariants.{Small, Capital}
use Rattle.hm_lex.specs.declared.token.Kind.{Kind}
use Rattle.hm_lex.specs.declared.token.Kind.TheVariants.{Word, VarId, ConId, QVarId, QConId}
use Rattle.hm_lex.specs.declared.next.Next.{Next}
use Rattle.hm_lex.specs.declared.next.Next.TheVariants as next
use Rattle.hm_lex.specs.Bytes.{class_of, is_one_of, is_digit, is_octal_digit, is_hexadecimal_digit}
use Rattle.hm_lex.specs.Names.{IsCapitalName, dotted}
use Rattle.hm_lex.specs.Symbols.{is_dash}
use Rattle.hm_lex.specs.Shapes.{Shape, lexeme, malformed}
use Rattle.hm_lex.specs.Cut.{IsLongest, shape_of}
use Rattle.hm_lex.specs.Faults.{NoItemBegins, OpenCommentBegins}

-- the result is the item at the front
abbrev pub IsNext : List ℕ → Next → Type 0
IsNext bytes (next.Item item len) = (len ≤ length bytes) × IsLongest (shape_of item) (take len bytes) bytes
IsNext bytes next.OpenComment = OpenCommentBegins bytes
IsNext bytes next.Nothing = NoItemBegins bytes × (OpenCommentBegins bytes → ⊥)

-- a kind, or none, as a shape
abbrev pub shape_of_kind : Option Kind → Shape
shape_of_kind (Some k) = lexeme k
shape_of_kind None = malformed

-- the shape of a name: qualified or not, by its last part
abbrev pub name_shape : Bool → Bool → Bool → Shape
name_shape false true reserved = lexeme ConId
name_shape true true reserved = lexeme QConId
name_shape false false true = lexeme Word
name_shape false false false = lexeme VarId
name_shape true false true = malformed
name_shape true false false = lexeme QVarId

-- the first byte is of this class
abbrev pub StartsWith : ByteClass → List ℕ → Type 0
StartsWith class [] = ⊥
StartsWith class (b ∷ bs) = class_of b ≡ class

abbrev pub is_name_class : ByteClass → Bool
is_name_class Small = true
is_name_class Capital = true
is_name_class _ = false

abbrev pub begins_name : ℕ → Bool
begins_name b = is_name_class (class_of b)

-- a name begins the bytes
abbrev pub StartsName : List ℕ → Type 0
StartsName [] = ⊥
StartsName (b ∷ bs) = IsTrue (begins_name b)

-- the first len bytes are a capital name and a dot, and a name follows
pub record IsQualifierOf (len : ℕ) (bytes : List ℕ) : Type 0 where
  pub name : List ℕ
  pub capital : IsCapitalName name
  pub front : take len bytes ≡ dotted name
  pub follows : StartsName (drop len bytes)

-- the bytes don't begin with a capital name, a dot and a name
abbrev pub NoQualifier : List ℕ → Type 0
NoQualifier bytes = (name rest : List ℕ) → IsCapitalName name → StartsName rest → name ++ 46 ∷ rest ≡ bytes → ⊥

-- the number of digits after a 0 and the mark of a base
abbrev pub marked_digits : List ℕ → ℕ
marked_digits bytes =
    if slice_index bytes 0 == 48
    then (if is_one_of (codes "xX") (slice_index bytes 1) then prefix_len is_hexadecimal_digit (drop 2 bytes)
    else (if is_one_of (codes "oO") (slice_index bytes 1) then prefix_len is_octal_digit (drop 2 bytes) else 0))
    else 0

-- the bytes after a decimal make it a fraction
abbrev pub begins_fraction : List ℕ → Bool
begins_fraction bytes =
    if slice_index bytes 0 == 46 then is_digit (slice_index bytes 1)
    else (if is_one_of (codes "eE") (slice_index bytes 0)
    then (is_digit (slice_index bytes 1) || (is_one_of (codes "+-") (slice_index bytes 1) && is_digit (slice_index bytes 2)))
    else false)

abbrev pub is_within_line : ℕ → Bool
is_within_line b = not (b == 10)

abbrev pub is_unquoted : ℕ → Bool
is_unquoted b = not (b == 39)

abbrev pub are_dashes : List ℕ → Bool
are_dashes bytes = nat_le 2 (length bytes) && list_all is_dash bytes
