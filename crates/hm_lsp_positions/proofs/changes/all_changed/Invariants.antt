use Rattle.std.proofs.Common.{ℕ, List, drop}
use Rattle.hm_lsp_positions.specs.Changes.{AreApplied, HasReversed}
use Rattle.hm_lsp_positions.specs.Starts.{AreStarts}
use Rattle.hm_lsp_positions.proofs.changes.all_changed.Given as goal

abbrev pub invariant-changes : goal.invariant-changes
invariant-changes l =
    ((end : List ℕ) → AreApplied l.encoding l.made.items (drop l.change-index l.changes) end → AreApplied l.encoding l.text l.changes end)
    × (HasReversed l.encoding l.made.items (drop l.change-index l.changes) → HasReversed l.encoding l.text l.changes) × AreStarts l.made.items l.starts.items
