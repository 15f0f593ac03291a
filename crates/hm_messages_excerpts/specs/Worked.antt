-- Worked examples: the mark at a place, bytes as they are shown, and the columns of a place.
use Rattle.std.specs.Prelude.{◌≡◌, ℕ, List, [], ◌∷◌, ◌++◌, codes}
use Rattle.hm_lex.specs.declared.token.Place.{Place}
use Rattle.hm_messages_excerpts.specs.Columns.{AreColumnsAt}
use Rattle.hm_messages_excerpts.specs.Escapes.{shown}
use Rattle.hm_messages_excerpts.specs.Marks.{marked}

-- a name is marked with its qualifier and its quotes, and a run of symbols as a whole. A bracket is marked alone, and the end of a line has no mark
pub record MarksRow : Type 0 where
  pub name : marked (codes "M.x' = 1") ≡ 4
  pub symbols : marked (codes "->y") ≡ 2
  pub bracket : marked (codes "))") ≡ 1
  pub line_end : marked [] ≡ 0
  pub no_more : ¬ (marked (codes "f x") ≡ 3)

-- a tab is shown as four spaces. No bytes are shown as nothing
pub record EscapesRow : Type 0 where
  pub tabs : shown (9 ∷ 9 ∷ []) ≡ codes "        "
  pub none : shown [] ≡ []
  pub not_raw : ¬ (shown (9 ∷ []) ≡ 9 ∷ [])

-- a letter of two bytes and a picture of four, and then a name
abbrev pub pictured : List ℕ
pictured = 195 ∷ 169 ∷ 240 ∷ 159 ∷ 152 ∷ 128 ∷ codes "y"

abbrev pub at_name : Place
at_name = record { line = 1; column = 7 }

-- the name comes after six bytes, two characters and three units of UTF-16. No column is 0
pub record ColumnsRow : Type 0 where
  pub name : AreColumnsAt pictured at_name (record { bytes = 7; characters = 3; utf16 = 4 })
  pub from_one : ¬ (AreColumnsAt pictured at_name (record { bytes = 7; characters = 0; utf16 = 4 }))
  pub other : ¬ (AreColumnsAt pictured at_name (record { bytes = 7; characters = 7; utf16 = 4 }))
