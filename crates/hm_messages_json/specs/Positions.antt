-- The positions of places of a source.
use Rattle.std.specs.Prelude.{◌≡◌, ℕ, List, Option, None, Some}
use Rattle.hm_lex.specs.declared.token.Place.{Place}
use Rattle.hm_messages_excerpts.specs.Columns.{AreColumnsAt, IsMarkEnd}
use Rattle.hm_messages_excerpts.specs.Excerpts.{IsPlaceIn}
use Rattle.hm_messages_json.specs.declared.message.Position.{Position}
use Rattle.hm_messages_json.specs.declared.message.Range.{Range}
use Rattle.hm_messages_json.specs.declared.positions.Span.{Span}

-- the position is the place's
pub record IsPositionAt (source : List ℕ) (place : Place) (position : Position) : Type 0 where
  pub line_is : position.line ≡ place.line
  pub columns_at : AreColumnsAt source place position.columns

-- from the place to the one after what is marked there
pub record IsRangeAt (source : List ℕ) (place : Place) (start end : Position) : Type 0 where
  pub start_at : IsPositionAt source place start
  pub after : Place
  pub marked : IsMarkEnd source place after
  pub end_at : IsPositionAt source after end

-- the range of the part, if there is one and its places are in the source
abbrev pub IsRangeOf : List ℕ → Option Span → Option Range → Type 0
IsRangeOf source None range = range ≡ None
IsRangeOf source (Some part) None = ¬ (IsPlaceIn source part.start × IsPlaceIn source part.end)
IsRangeOf source (Some part) (Some range) = IsPositionAt source part.start range.start × IsPositionAt source part.end range.end
