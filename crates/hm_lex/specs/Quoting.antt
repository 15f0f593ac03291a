-- The length of an item of a string, and strings read byte by byte. No public clause names these.
use Rattle.std.specs.Prelude.{◌≡◌, ◌≢◌, ◌⊎◌, ℕ, ◌+◌, ◌≤◌, ◌==◌, ◌&&◌, Bool, List, [], ◌∷◌, ◌++◌, take, drop, Option, Some, None, slice_index, nat_lt, nat_le, not, codes, if◌then◌else◌}
use Rattle.std.specs.List.{prefix_len}
use Rattle.std.specs.Str.Parse.{digits_value}
use Rattle.hm_lex.specs.Bytes.{is_one_of, is_digit, is_white, is_octal_digit, is_hexadecimal_digit}
use Rattle.hm_lex.specs.Quotes.{IsEscape, IsGap, max_code}
use Rattle.hm_lex.specs.Nesting.{plus}

-- the number of digits of a numeric escape, if there are some and their code isn't too great
unfoldable pub numeric_len : ℕ → ℕ → List ℕ → Option ℕ
numeric_len base digits bytes =
    if nat_lt 0 digits && nat_le (digits_value base (take digits bytes)) max_code then Some digits else None

abbrev pub is_simple : ℕ → Bool
is_simple b = is_one_of (codes "abfnrtv\\\"'") b

-- an escape, after its backslash
unfoldable pub escape_len : List ℕ → Option ℕ
escape_len bytes =
    if is_simple (slice_index bytes 0) then Some 1
    else (if slice_index bytes 0 == 111 then plus 1 (numeric_len 8 (prefix_len is_octal_digit (drop 1 bytes)) (drop 1 bytes))
    else (if slice_index bytes 0 == 120 then plus 1 (numeric_len 16 (prefix_len is_hexadecimal_digit (drop 1 bytes)) (drop 1 bytes))
    else numeric_len 10 (prefix_len is_digit bytes) bytes))

-- a gap, after its first backslash
unfoldable pub gap_len : List ℕ → Option ℕ
gap_len bytes =
    if nat_lt 0 (prefix_len is_white bytes) && slice_index bytes (prefix_len is_white bytes) == 92 then Some (prefix_len is_white bytes + 1) else None

-- an escape, a gap or &, after a backslash in a string
unfoldable pub marked_len : List ℕ → Option ℕ
marked_len bytes =
    if slice_index bytes 0 == 38 then Some 1
    else (if is_white (slice_index bytes 0) then gap_len bytes
    else escape_len bytes)

unfoldable pub string_item_len : List ℕ → Option ℕ
string_item_len bytes =
    if slice_index bytes 0 == 92 then plus 1 (marked_len (drop 1 bytes))
    else (if nat_le 32 (slice_index bytes 0) && not (slice_index bytes 0 == 34) then Some 1 else None)

-- a byte that needs no escape, or is part of a character that needs none
abbrev pub IsPlainByte : List ℕ → Type 0
IsPlainByte text = (b : ℕ) × (32 ≤ b) × (b ≢ 34) × (b ≢ 92) × (text ≡ b ∷ [])

-- an item of a string, in which a character may have any bytes of 32 or more
abbrev pub IsByteItem : List ℕ → List ℕ → Type 0
IsByteItem text rest = IsPlainByte text ⊎ IsEscape text rest ⊎ (text ≡ codes "\\&") ⊎ IsGap text

-- the rest of a string of these items after its first quote, including the last quote
pub data IsByteRest : List ℕ → Type 0 where
  byte_ends : {text : List ℕ} → text ≡ 34 ∷ [] → IsByteRest text
  byte_item : {text : List ℕ} (first rest : List ℕ) → IsByteItem first rest → IsByteRest rest → text ≡ first ++ rest → IsByteRest text
