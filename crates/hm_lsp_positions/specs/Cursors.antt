-- Cursors in texts.
use Rattle.std.specs.Prelude.{◌≡◌, ℕ, ◌+◌, ◌-◌, ◌*◌, ◌<◌, ◌≤◌, List, Some, IfSome, length, take, drop}
use Rattle.hm_lsp_positions.specs.Lines.{line_length, line_start}
use Rattle.hm_lsp_positions.specs.Units.{units}
use Rattle.hm_lsp_positions.specs.declared.cursors.Line.{Line}
use Rattle.hm_lsp_positions.specs.declared.cursors.Spot.{Spot}
use Rattle.hm_lsp_positions.specs.declared.units.Encoding.{Encoding}

-- what a cursor is for: a text, and what the columns of its positions count
pub record Walk : Type 0 where
  pub encoding : Encoding
  pub text : List ℕ

-- a line of the text. The next one begins later, if there is one
pub record IsLine (text : List ℕ) (line : Line) : Type 0 where
  pub starts : line_start line.number text ≡ Some line.start
  pub ordered : line.start ≤ line.end
  pub within : line.end ≤ length text
  pub few : line.number ≤ line.start
  pub ends : line.end ≡ line.start + line_length (drop line.start text)
  pub next : line_start (line.number + 1) text ≡ line.next
  pub later : IfSome line.next (λ next. (line.start < next) × (next ≤ length text))

-- a place after the start of a line, and the units between
pub record IsSpot (encoding : Encoding) (text : List ℕ) (spot : Spot) : Type 0 where
  pub line : IsLine text spot.line
  pub after : spot.line.start ≤ spot.offset
  pub within : spot.offset ≤ length text
  pub column : spot.column ≡ units encoding (take (spot.offset - spot.line.start) (drop spot.line.start text))
  pub few : spot.column ≤ 2 * spot.offset
