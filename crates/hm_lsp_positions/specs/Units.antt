-- The units of a text (Language Server Protocol 3.17, "Position", `PositionEncodingKind`). Texts are bytes of UTF-8.
use Rattle.std.specs.Prelude.{ℕ, nat_le, Bool, List, if◌then◌else◌}
use Rattle.std.specs.Int.{is_in_range}
use Rattle.std.specs.List.{sum_by}
use Rattle.hm_lsp_positions.specs.declared.units.Encoding.{Encoding}
use Rattle.hm_lsp_positions.specs.declared.units.Encoding.TheVariants.{Utf8, Utf16, Utf32}

-- the byte is inside a character, after its first byte
abbrev pub continues : ℕ → Bool
continues b = is_in_range 0x80 0xBF b

-- the number of units that a byte adds. The first byte of a character counts for all of it: a character of four bytes has two units of UTF-16
abbrev pub unit_of : Encoding → ℕ → ℕ
unit_of Utf8 b = 1
unit_of Utf16 b = if continues b then 0 else if nat_le 0xF0 b then 2 else 1
unit_of Utf32 b = if continues b then 0 else 1

abbrev pub units : Encoding → List ℕ → ℕ
units encoding text = sum_by (unit_of encoding) text
