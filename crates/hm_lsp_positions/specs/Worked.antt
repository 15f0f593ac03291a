-- Worked examples.
use Rattle.std.specs.Prelude.{◌≡◌, ℕ, List, [], ◌∷◌, Some, None, codes}
use Rattle.hm_lsp_positions.specs.Cursors.{IsLine, IsSpot}
use Rattle.hm_lsp_positions.specs.Lines.{line_start}
use Rattle.hm_lsp_positions.specs.Units.{units}
use Rattle.hm_lsp_positions.specs.declared.cursors.Line.{Line}
use Rattle.hm_lsp_positions.specs.declared.units.Encoding.TheVariants.{Utf8, Utf16, Utf32}

-- a line of one letter, an empty one, one of a letter, and the last one, which is empty
pub record LinesRow : Type 0 where
  pub first : line_start 0 (codes "a\r\n\rb\n") ≡ Some 0
  pub second : line_start 1 (codes "a\r\n\rb\n") ≡ Some 3
  pub third : line_start 2 (codes "a\r\n\rb\n") ≡ Some 4
  pub last : line_start 3 (codes "a\r\n\rb\n") ≡ Some 6
  pub no_more : line_start 4 (codes "a\r\n\rb\n") ≡ None
  pub not_apart : ¬ (line_start 1 (codes "a\r\nb") ≡ Some 2)

-- a letter of two bytes and a picture of four
abbrev pub pictured : List ℕ
pictured = 195 ∷ 169 ∷ 240 ∷ 159 ∷ 152 ∷ 128 ∷ []

pub record UnitsRow : Type 0 where
  pub bytes : units Utf8 pictured ≡ 6
  pub pairs : units Utf16 pictured ≡ 3
  pub characters : units Utf32 pictured ≡ 2
  pub not_characters : ¬ (units Utf16 pictured ≡ 2)

-- the second line of "a", "b", which is the last one
abbrev pub second_line : Line
second_line = record { number = 1; start = 2; end = 3; next = None }

-- the end of that line is one unit after its start. It doesn't begin at the end of the first line, and its start isn't a unit after it
pub record CursorsRow : Type 0 where
  pub line : IsLine (codes "a\nb") second_line
  pub spot : IsSpot Utf16 (codes "a\nb") (record { line = second_line; offset = 3; column = 1 })
  pub not_before : ¬ (IsLine (codes "a\nb") (record { number = 1; start = 1; end = 3; next = None }))
  pub not_after : ¬ (IsSpot Utf16 (codes "a\nb") (record { line = second_line; offset = 2; column = 1 }))
