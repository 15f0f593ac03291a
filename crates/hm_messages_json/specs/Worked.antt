-- Worked examples: the range of a part, and the edits of changes.
use Rattle.std.specs.Prelude.{◌≡◌, false, true, ℕ, List, [], ◌∷◌, None, Some, codes}
use Rattle.hm_lex.specs.declared.token.Place.{Place}
use Rattle.hm_messages_excerpts.specs.declared.columns.Columns.{Columns}
use Rattle.hm_messages_json.specs.Edits.{AreEditsOf, Changed, IsEditOf}
use Rattle.hm_messages_json.specs.Positions.{IsRangeOf}
use Rattle.hm_messages_json.specs.declared.message.Edit.{Edit}
use Rattle.hm_messages_json.specs.declared.message.Position.{Position}
use Rattle.hm_messages_json.specs.declared.positions.Span.{Span}

-- a letter of two bytes, then "b", and a second line with "c"
abbrev pub two_lines : List ℕ
two_lines = 195 ∷ 169 ∷ 98 ∷ 10 ∷ 99 ∷ []

-- the part "b", from its first byte up to the end of the line
abbrev pub b : Span
b = record { start = record { line = 1; column = 3 }; end = record { line = 1; column = 4 } }

-- a position on the first line of a text without pictures, where characters and units of UTF-16 agree
abbrev pub on_first : ℕ → ℕ → Position
on_first bytes characters = record { line = 1; columns = record { bytes = bytes; characters = characters; utf16 = characters } }

-- "b" comes after two bytes and one character. A part within the source has a range, and no part has none
pub record RangesRow : Type 0 where
  pub part : IsRangeOf two_lines (Some b) (Some (record { start = on_first 3 2; end = on_first 4 3 }))
  pub nothing : IsRangeOf two_lines None None
  pub not_lost : ¬ (IsRangeOf two_lines (Some b) None)
  pub not_made_up : ¬ (IsRangeOf two_lines None (Some (record { start = on_first 3 2; end = on_first 4 3 })))

-- "x" in place of "b", which the checker accepted
abbrev pub x_for_b : Changed
x_for_b = record { start = b.start; end = b.end; text = codes "x"; checked = true }

-- the edit of this change has its range, its text and its word of the checker. One that isn't checked is no edit of it, and a change has one edit
pub record EditsRow : Type 0 where
  pub edit : (e : Edit) → e.start ≡ on_first 3 2 → e.end ≡ on_first 4 3 → e.text.now ≡ codes "x" → e.is_checked ≡ true → AreEditsOf two_lines (x_for_b ∷ []) (e ∷ [])
  pub not_unchecked : (e : Edit) → e.is_checked ≡ false → ¬ (IsEditOf two_lines x_for_b e)
  pub not_none : ¬ (AreEditsOf two_lines (x_for_b ∷ []) [])
