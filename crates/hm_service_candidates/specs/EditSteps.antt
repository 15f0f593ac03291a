-- The steps by which edits are made. No public clause names these.
use Rattle.std.specs.Prelude.{◌≡◌, ◌+◌, ◌≤◌, ℕ, List, ◌++◌, drop, get_or, length}
use Rattle.hm_service_candidates.specs.Cursors.{IsCursor}
use Rattle.hm_service_candidates.specs.Edited.{IsByteAt, IsEditedFrom}
use Rattle.hm_service_candidates.specs.declared.cursors.Cursor.{Cursor}
use Rattle.hm_service_candidates.specs.declared.edited.EditSpan.{EditSpan}
use Rattle.hm_service_messages.specs.Lines.{Change}

-- the edit begins and ends at bytes of the text, from byte number `at` on
abbrev pub HasSpan : List ℕ → ℕ → Change → Type 0
HasSpan text at e = (from : ℕ) × ((to : ℕ) × ((at ≤ from) × ((from ≤ to) × (IsByteAt text e.start from × IsByteAt text e.end to))))

-- it begins and ends there
pub record IsSpan (text : List ℕ) (at : ℕ) (e : Change) (s : EditSpan) : Type 0 where
  pub start : IsCursor text s.start
  pub end : IsCursor text s.end
  pub later : at ≤ s.start.at
  pub ordered : s.start.at ≤ s.end.at
  pub from : IsByteAt text e.start s.start.at
  pub to : IsByteAt text e.end s.end.at

-- the text with its edits up to the end of the last one, which is at the cursor
pub record IsFront (text : List ℕ) (es : List Change) (front : List ℕ) (end : Cursor) : Type 0 where
  pub cursor : IsCursor text end
  pub edited : IsEditedFrom text 0 es (front ++ drop end.at text)
  pub last : (d : Change) (k : ℕ) → length es ≡ k + 1 → IsByteAt text (get_or es k d).end end.at
