-- Edits as the code has them.
use Rattle.std.specs.Prelude.{◌≤◌, ℕ, List, length}
use Rattle.hm_messages_edits.specs.Edits.{SourceEdit}
use Rattle.hm_messages_edits.specs.declared.changes.Edit.{Edit}

abbrev pub edit_of : Edit → SourceEdit
edit_of e = record { from = e.from; to = e.to; text = e.text.now }

-- the edit's range is in the source
abbrev pub IsEditIn : List ℕ → Edit → Type 0
IsEditIn source e = (e.from ≤ length source) × (e.to ≤ length source)
