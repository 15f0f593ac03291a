-- What is shown of a name, and where it is bound (Language Server Protocol 3.17, "Hover Request", "Location").
use Rattle.std.specs.Prelude.{◌≡◌, ℕ, ◌-◌, ◌<◌, ◌==◌, Bool, List, [], ◌++◌, codes, length, if◌then◌else◌}
use Rattle.std.specs.List.{after_first, before_first, position_or_len, starts_with}
use Rattle.serde_json.specs.Data.{Data, member, no_members, object, string}
use Rattle.hm_lsp_positions.specs.Positions.{IsOffsetOf, IsPositionOf}
use Rattle.hm_lsp_positions.specs.declared.positions.Position.{Position}
use Rattle.hm_lsp_positions.specs.declared.units.Encoding.{Encoding}
use Rattle.hm_lsp_positions.specs.declared.units.Encoding.TheVariants.{Utf32}
use Rattle.hm_service_messages.specs.declared.spots.Bound.{Bound}
use Rattle.hm_lsp_values.specs.Places.{position_data}

-- an empty range at a position
abbrev pub location_data : List ℕ → Position → Data
location_data uri p = object (member (codes "range") (object (member (codes "end") (position_data p) (member (codes "start") (position_data p) no_members)))
    (member (codes "uri") (string uri) no_members))

-- the position, in this encoding, of the place where a name is bound in the text of its source. The place counts characters
pub record IsLocation (encoding : Encoding) (uri text : List ℕ) (bound : Bound) (value : Data) : Type 0 where
  pub offset : ℕ
  pub position : Position
  pub at : IsOffsetOf Utf32 text (record { line = bound.line - 1; column = bound.column - 1 }) offset
  pub is : IsPositionOf encoding text offset position
  pub whole : value ≡ location_data uri position

abbrev pub is_end : ℕ → Bool
is_end b = b == 10

-- a line of a text for a place says where the name is bound
abbrev pub is_bound : List ℕ → Bool
is_bound line = starts_with (λ a b. a == b) line (codes "  bound at ")

-- what is shown of a line, with what ends it
abbrev pub kept : List ℕ → List ℕ → List ℕ
kept line end = if is_bound line then [] else line ++ end

-- the lines of a text for a place without those that say where a name is bound
pub data IsShown : List ℕ → List ℕ → Type 0 where
  last : {text : List ℕ} → position_or_len is_end text ≡ length text → IsShown text (kept text [])
  line : {text shown : List ℕ} → position_or_len is_end text < length text → IsShown (after_first is_end text) shown → IsShown text (kept (before_first is_end text) (codes "\n") ++ shown)

abbrev pub hover_data : List ℕ → Data
hover_data shown = object (member (codes "contents") (object (member (codes "kind") (string (codes "plaintext")) (member (codes "value") (string shown) no_members))) no_members)

pub record IsHover (text : List ℕ) (value : Data) : Type 0 where
  pub shown : List ℕ
  pub is_shown : IsShown text shown
  pub whole : value ≡ hover_data shown
