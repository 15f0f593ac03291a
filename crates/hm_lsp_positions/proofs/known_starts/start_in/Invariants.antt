use Rattle.std.proofs.Common.{◌+◌, ◌-◌, length}
use Rattle.hm_lsp_positions.specs.Starts.{AreStarts}
use Rattle.hm_lsp_positions.proofs.known_starts.start_in.Given as goal

abbrev pub invariant-lines : goal.invariant-lines
invariant-lines l = AreStarts l.text l.starts.items

abbrev pub decreases-lines : goal.decreases-lines
decreases-lines l = (l.line + 1) - length l.starts.items
