-- Positions in a text (Language Server Protocol 3.17, "Position"): a line, and a number of units before a place in the line. Both are counted from 0.
use Rattle.std.specs.Prelude.{◌≡◌, ℕ, ◌+◌, ◌-◌, ◌<◌, ◌≤◌, nat_lt, Bool, ◌&&◌, false, List, Some, IfSome, MatchOption, length, take, drop, slice_index}
use Rattle.hm_lsp_positions.specs.Lines.{first_line, line_start}
use Rattle.hm_lsp_positions.specs.Units.{continues, units}
use Rattle.hm_lsp_positions.specs.declared.positions.Position.{Position}
use Rattle.hm_lsp_positions.specs.declared.units.Encoding.{Encoding}

-- the place is inside a character
abbrev pub is_inside : List ℕ → ℕ → Bool
is_inside line k = nat_lt 0 k && (nat_lt k (length line) && continues (slice_index line k))

-- a place between two characters of a line, or at its start or end, as a number of bytes
pub record IsBetween (line : List ℕ) (k : ℕ) : Type 0 where
  pub within : k ≤ length line
  pub apart : is_inside line k ≡ false

-- the last place in the line with at most so many units before it
pub record IsColumn (encoding : Encoding) (line : List ℕ) (column k : ℕ) : Type 0 where
  pub between : IsBetween line k
  pub most : units encoding (take k line) ≤ column
  pub last : (j : ℕ) → k < j → IsBetween line j → column < units encoding (take j line)

-- the number of bytes before a position. One after the end of its line is the end of the line, one in a character is the start of the character, and one
-- after the last line is the end of the text
abbrev pub IsOffsetOf : Encoding → List ℕ → Position → ℕ → Type 0
IsOffsetOf encoding text p offset =
    MatchOption (line_start p.line text) (offset ≡ length text) (λ start. (k : ℕ) × IsColumn encoding (first_line (drop start text)) p.column k × (offset ≡ start + k))

-- a place in the line with this number: at the start of a character, or at the end of the line
pub record IsPlace (text : List ℕ) (line offset : ℕ) : Type 0 where
  pub start : ℕ
  pub starts : line_start line text ≡ Some start
  pub after : start ≤ offset
  pub within : offset - start ≤ length (first_line (drop start text))
  pub apart : offset - start < length (first_line (drop start text)) → continues (slice_index (first_line (drop start text)) (offset - start)) ≡ false

-- the position of the place after so many bytes: the number of the last line that begins at or before it, and the units between
pub record IsPositionOf (encoding : Encoding) (text : List ℕ) (offset : ℕ) (p : Position) : Type 0 where
  pub start : ℕ
  pub starts : line_start p.line text ≡ Some start
  pub after : start ≤ offset
  pub last : IfSome (line_start (p.line + 1) text) (λ next. offset < next)
  pub column : p.column ≡ units encoding (take (offset - start) (drop start text))
