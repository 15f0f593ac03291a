-- Positions and ranges (Language Server Protocol 3.17, "Position", "Range"). Lines and columns are from 0 there, and from 1 in places of the checker.
use Rattle.std.specs.Prelude.{◌≡◌, ℕ, ◌+◌, ◌-◌, List, codes}
use Rattle.serde_json.specs.Data.{Data, member, no_members, number, object, unsigned}
use Rattle.hm_lsp_positions.specs.Positions.{IsOffsetOf, IsPositionOf}
use Rattle.hm_lsp_positions.specs.declared.positions.Position.{Position}
use Rattle.hm_lsp_positions.specs.declared.units.Encoding.{Encoding}
use Rattle.hm_lsp_positions.specs.declared.units.Encoding.TheVariants.{Utf8, Utf16, Utf32}
use Rattle.hm_messages_excerpts.specs.declared.columns.Columns.{Columns}
use Rattle.hm_messages_json.specs.declared.message.Position.{Position as Place}

abbrev pub position_data : Position → Data
position_data p = object (member (codes "character") (number (unsigned p.column)) (member (codes "line") (number (unsigned p.line)) no_members))

-- the column in an encoding
abbrev pub column_of : Encoding → Columns → ℕ
column_of Utf8 c = c.bytes
column_of Utf16 c = c.utf16
column_of Utf32 c = c.characters

abbrev pub position_of_place : Encoding → Place → Position
position_of_place encoding place = record { line = place.line - 1; column = column_of encoding place.columns - 1 }

abbrev pub range_data : Encoding → Place → Place → Data
range_data encoding start end =
    object (member (codes "end") (position_data (position_of_place encoding end)) (member (codes "start") (position_data (position_of_place encoding start)) no_members))

-- the place of the checker that has this position in a text: its line and its columns in all encodings
pub record IsPlaceAt (encoding : Encoding) (text : List ℕ) (p : Position) (place : Place) : Type 0 where
  pub offset : ℕ
  pub bytes : Position
  pub characters : Position
  pub utf16 : Position
  pub at : IsOffsetOf encoding text p offset
  pub in_bytes : IsPositionOf Utf8 text offset bytes
  pub in_characters : IsPositionOf Utf32 text offset characters
  pub in_utf16 : IsPositionOf Utf16 text offset utf16
  pub line : place.line ≡ bytes.line + 1
  pub columns : place.columns ≡ record { bytes = bytes.column + 1; characters = characters.column + 1; utf16 = utf16.column + 1 }
