-- Bytes as they are shown on a terminal. They can't move its cursor, change its colours or change the reading order.
use Rattle.std.specs.Prelude.{ℕ, zero, suc, ◌-◌, ◌==◌, Bool, false, ◌||◌, List, [], ◌∷◌, ◌++◌, Option, Some, None, chars, codes, encode_utf8, if◌then◌else◌}
use Rattle.std.specs.Fmt.{radix_digits}
use Rattle.std.specs.Int.{is_in_range}
use Rattle.bstr.specs.Utf8.{Decoded, decoded}
use Rattle.ucd_category.specs.GeneralCategory.{general_category}
use Rattle.ucd_category.specs.GeneralCategoryGroup.{in_group}
use Rattle.ucd_category.specs.declared.GeneralCategoryGroup.TheVariants.{Other}
use Rattle.unicode_width.specs.Width.{str_width}

-- the character is invisible or changes the reading order: Unicode's categories Cc, Cf, Co and Cn, and its separators of lines and paragraphs
abbrev pub is_hidden : ℕ → Bool
is_hidden c = in_group Other (general_category c) || is_in_range 0x2028 0x2029 c

-- a character as it is shown: a tab as four spaces, a hidden one as its number
abbrev pub char_text : ℕ → List ℕ
char_text c =
    if c == 9 then codes "    "
    else if is_hidden c then codes "\\u{" ++ radix_digits 16 false c ++ codes "}"
    else encode_utf8 c

-- a byte that isn't in a character of UTF-8, as it is shown
abbrev pub byte_text : ℕ → List ℕ
byte_text b = codes "\\x" ++ radix_digits 16 false b

-- the first piece of a text that begins with this byte, as it is shown: the first character, or the byte
abbrev pub piece_text : Option ℕ → ℕ → List ℕ
piece_text (Some c) b = char_text c
piece_text None b = byte_text b

-- the number of bytes of that piece
abbrev pub size_of : Option ℕ → ℕ → ℕ
size_of (Some c) size = size
size_of None size = 1

abbrev pub piece_size : Decoded → ℕ
piece_size piece = size_of piece.char piece.size

-- the pieces after the first n bytes, as they are shown
unfoldable pub shown_after : ℕ → List ℕ → List ℕ
shown_after n [] = []
shown_after (suc n) (b ∷ bs) = shown_after n bs
shown_after zero (b ∷ bs) =
    let piece = decoded (b ∷ bs) in
    piece_text piece.char b ++ shown_after (piece_size piece - 1) bs

-- the bytes as they are shown
abbrev pub shown : List ℕ → List ℕ
shown = shown_after 0

-- the number of columns of a terminal that they take (Unicode Standard Annex 11)
abbrev pub width : List ℕ → ℕ
width bytes = str_width false (chars (shown bytes))
