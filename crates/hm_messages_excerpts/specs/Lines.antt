-- The lines of a source, by number.
use Rattle.std.specs.Prelude.{◌≡◌, ℕ, ◌+◌, ◌-◌, ◌≤◌, ◌<◌, Bool, false, List, length, take, drop, slice_index, slice_index_or, All}
use Rattle.hm_lex.specs.declared.token.Place.{Place}
use Rattle.hm_lex.specs.Cut.{is_line_end, place_after}
use Rattle.hm_messages_excerpts.specs.declared.lines.Span.{Span}
use Rattle.hm_messages_excerpts.specs.declared.lines.Spot.{Spot}

-- no byte passes the test
abbrev pub IsWithout : (ℕ → Bool) → List ℕ → Type 0
IsWithout test text = All (λ b. test b ≡ false) text

-- the line with this number, from 0: it begins at the span's start, and has no line end
pub record IsLineAt (source : List ℕ) (number : ℕ) (span : Span) : Type 0 where
  pub ordered : span.start ≤ span.end
  pub within : span.end ≤ length source
  pub line : (place_after (take span.start source)).line ≡ number + 1
  pub column : (place_after (take span.start source)).column ≡ 1
  pub plain : IsWithout is_line_end (take (span.end - span.start) (drop span.start source))
  pub ends : span.end < length source → slice_index source span.end ≡ 10

-- some line has the byte with this number, or ends there
abbrev pub IsCovered : List Span → ℕ → Type 0
IsCovered spans at = (k : ℕ) × (k < length spans) × ((d : Span) → ((slice_index_or spans k d).start ≤ at) × (at ≤ (slice_index_or spans k d).end))

-- all lines of the source, in order, up to this byte
pub record AreLinesBefore (source : List ℕ) (spans : List Span) (start : ℕ) : Type 0 where
  pub each : (k : ℕ) (d : Span) → k < length spans → IsLineAt source k (slice_index_or spans k d)
  pub covered : (at : ℕ) → at < start → IsCovered spans at

-- all lines of the source, in order
abbrev pub AreLinesOf : List ℕ → List Span → Type 0
AreLinesOf source spans = AreLinesBefore source spans (length source + 1)

-- the spot of the place: the line with its number, and the bytes before its column
pub record IsSpotOf (source : List ℕ) (place : Place) (spot : Spot) : Type 0 where
  pub number : ℕ
  pub line : IsLineAt source number (record { start = spot.start; end = spot.end })
  pub line_is : place.line ≡ number + 1
  pub column_is : place.column ≡ spot.offset + 1
  pub within : spot.offset ≤ spot.end - spot.start
