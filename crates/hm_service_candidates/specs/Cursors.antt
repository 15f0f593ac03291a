-- How far a text is gone through. No public clause names this.
use Rattle.std.specs.Prelude.{◌≡◌, ◌+◌, ◌≤◌, ℕ, List, length, take}
use Rattle.hm_lex.specs.Cut.{place_after}
use Rattle.hm_service_candidates.specs.declared.cursors.Cursor.{Cursor}

pub record IsCursor (text : List ℕ) (c : Cursor) : Type 0 where
  pub within : c.at ≤ length text
  pub place : c.place ≡ place_after (take c.at text)
  pub lines : c.place.line ≤ 1 + c.at
  pub columns : c.place.column ≤ 1 + c.at
