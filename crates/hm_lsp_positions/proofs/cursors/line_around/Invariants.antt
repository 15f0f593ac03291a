use Rattle.std.proofs.Common.{◌-◌, ◌≤◌, length}
use Rattle.hm_lsp_positions.specs.Cursors.{IsLine}
use Rattle.hm_lsp_positions.proofs.cursors.line_around.Given as goal

abbrev pub invariant-lines : goal.invariant-lines
invariant-lines l = IsLine l.text l.line × (l.line.start ≤ l.offset)

abbrev pub decreases-lines : goal.decreases-lines
decreases-lines l = length l.text - l.line.start
