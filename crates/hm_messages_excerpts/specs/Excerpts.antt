-- Places in a source, and the shown part of the line there.
use Rattle.std.specs.Prelude.{◌≡◌, ℕ, ◌+◌, ◌≤◌, ◌<◌, Bool, true, false, List, [], ◌++◌, length, slice_index}
use Rattle.std.specs.Int.{is_in_range}
use Rattle.hm_lex.specs.declared.token.Place.{Place}
use Rattle.hm_lex.specs.Cut.{is_line_end, place_after}
use Rattle.hm_messages_excerpts.specs.declared.excerpt.Excerpt.{Excerpt}
use Rattle.hm_messages_excerpts.specs.Lines.{IsWithout}

-- the place is in the source: it comes after some of its first bytes
pub record IsPlaceIn (source : List ℕ) (place : Place) : Type 0 where
  pub before : List ℕ
  pub after : List ℕ
  pub whole : source ≡ before ++ after
  pub placed : place ≡ place_after before

-- the line at the place, without its end: the bytes before the place, and those from the place on
pub record IsLineAround (source : List ℕ) (place : Place) (front back : List ℕ) : Type 0 where
  pub before : List ℕ
  pub after : List ℕ
  pub whole : source ≡ before ++ (front ++ (back ++ after))
  pub placed : place ≡ place_after (before ++ front)
  pub begins : (place_after before).column ≡ 1
  pub ends : 0 < length after → slice_index after 0 ≡ 10
  pub front_plain : IsWithout is_line_end front
  pub back_plain : IsWithout is_line_end back

-- these are the bytes from the place to the end of its line
abbrev pub IsRestOfLine : List ℕ → Place → List ℕ → Type 0
IsRestOfLine source place rest = (front : List ℕ) × IsLineAround source place front rest

-- the byte is inside a character of UTF-8, after its first byte
abbrev pub continues : ℕ → Bool
continues b = is_in_range 128 191 b

-- the number of bytes that are shown on each side of a place
abbrev pub most_shown : ℕ
most_shown = 80

-- the shown part of a line with these bytes before and after a place. Of a longer side it has `most_shown` bytes, or up to three fewer so that no
-- character is cut
pub record IsShownRound (front back : List ℕ) (e : Excerpt) : Type 0 where
  pub before : List ℕ
  pub after : List ℕ
  pub front_is : front ≡ before ++ e.left.now
  pub back_is : back ≡ e.right.now ++ after
  pub whole_left : e.is_cut_left ≡ false → before ≡ []
  pub whole_right : e.is_cut_right ≡ false → after ≡ []
  pub long_left : e.is_cut_left ≡ true → most_shown ≤ length e.left.now + 3
  pub long_right : e.is_cut_right ≡ true → most_shown ≤ length e.right.now + 3
  pub short_left : length e.left.now ≤ most_shown
  pub short_right : length e.right.now ≤ most_shown

-- the excerpt is the shown part of the line at the place
pub record IsExcerptAt (source : List ℕ) (place : Place) (e : Excerpt) : Type 0 where
  pub front : List ℕ
  pub back : List ℕ
  pub line : IsLineAround source place front back
  pub cut : IsShownRound front back e
