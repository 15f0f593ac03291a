use Rattle.std.proofs.Common.{ℕ, List, length}
use Rattle.hm_lsp_positions.specs.Starts.{AreStarts}
use Rattle.hm_lsp_positions.proofs.known_starts.keep_before.Given as goal

abbrev pub invariant-starts : goal.invariant-starts
invariant-starts l = (text : List ℕ) → AreStarts text l.initial.starts.items → AreStarts text l.starts.items

abbrev pub decreases-starts : goal.decreases-starts
decreases-starts l = length l.starts.items
