-- Where names are written in texts (Language Server Protocol 3.17, "Range").
use Rattle.std.specs.Prelude.{ℕ, ◌+◌, ◌-◌, List, codes, length, min}
use Rattle.serde_json.specs.Data.{Data, member, no_members, object}
use Rattle.hm_lsp_positions.specs.Positions.{IsOffsetOf, IsPositionOf}
use Rattle.hm_lsp_positions.specs.declared.positions.Position.{Position}
use Rattle.hm_lsp_positions.specs.declared.units.Encoding.{Encoding}
use Rattle.hm_lsp_positions.specs.declared.units.Encoding.TheVariants.{Utf8}
use Rattle.hm_lsp_values.specs.Places.{position_data}

-- the positions, in this encoding, between which a name of so many bytes is written in a text. Its line and its column are from 1, and the column counts bytes
pub record IsSpan (encoding : Encoding) (text : List ℕ) (line column size : ℕ) (start end : Position) : Type 0 where
  pub offset : ℕ
  pub at : IsOffsetOf Utf8 text (record { line = line - 1; column = column - 1 }) offset
  pub starts : IsPositionOf encoding text offset start
  pub ends : IsPositionOf encoding text (min (offset + size) (length text)) end

abbrev pub span_data : Position → Position → Data
span_data start end = object (member (codes "end") (position_data end) (member (codes "start") (position_data start) no_members))
