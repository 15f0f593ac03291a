-- Columns in a line: in characters, as people and Emacs count, and in units of UTF-16, as editors in JavaScript count.
use Rattle.std.specs.Prelude.{◌≡◌, ℕ, ◌+◌, ◌*◌, ◌<◌, nat_le, List, length, take, slice_index_or}
use Rattle.std.specs.Fmt.{is_char_start}
use Rattle.std.specs.List.{count_by}
use Rattle.hm_lex.specs.declared.token.Place.{Place}
use Rattle.hm_messages_excerpts.specs.Excerpts.{IsLineAround}
use Rattle.hm_messages_excerpts.specs.Marks.{marked}
use Rattle.hm_messages_excerpts.specs.declared.columns.Units.{Units}
use Rattle.hm_messages_excerpts.specs.declared.columns.Columns.{Columns}

-- the number of characters in the text. Each begins with one byte
abbrev pub characters : List ℕ → ℕ
characters text = count_by is_char_start text

-- the number of units of UTF-16. A character with four bytes of UTF-8 has two
abbrev pub utf16_units : List ℕ → ℕ
utf16_units text = characters text + count_by (nat_le 0xF0) text

abbrev pub units_of : List ℕ → Units
units_of text = record { characters = characters text; wide = count_by (nat_le 0xF0) text }

-- the number of bytes between two rows of the table
abbrev pub stride : ℕ
stride = 1024

-- the table has a row for each stride, up to the source's end
pub record AreUnitsOf (source : List ℕ) (table : List Units) : Type 0 where
  pub enough : length source < length table * stride
  pub each : (k : ℕ) (d : Units) → k < length table → slice_index_or table k d ≡ units_of (take (k * stride) source)

-- the columns of the place, from 1: one more than the number of bytes, of characters and of units before it on its line
pub record AreColumnsAt (source : List ℕ) (place : Place) (columns : Columns) : Type 0 where
  pub front : List ℕ
  pub back : List ℕ
  pub line : IsLineAround source place front back
  pub bytes_are : columns.bytes ≡ length front + 1
  pub characters_are : columns.characters ≡ characters front + 1
  pub utf16_are : columns.utf16 ≡ utf16_units front + 1

-- the place after the mark at a place
pub record IsMarkEnd (source : List ℕ) (place after : Place) : Type 0 where
  pub front : List ℕ
  pub back : List ℕ
  pub line : IsLineAround source place front back
  pub line_is : after.line ≡ place.line
  pub column_is : after.column ≡ place.column + marked back
