use Rattle.std.proofs.Common.{◌-◌, ◌≤◌}
use Rattle.hm_lsp_positions.specs.Cursors.{IsLine}
use Rattle.hm_lsp_positions.proofs.cursors.line_numbered.Given as goal

abbrev pub invariant-lines : goal.invariant-lines
invariant-lines l = IsLine l.text l.line × (l.line.number ≤ l.number)

abbrev pub decreases-lines : goal.decreases-lines
decreases-lines l = l.number - l.line.number
