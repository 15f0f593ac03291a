use Rattle.std.proofs.Common.{◌≡◌, ◌-◌, ◌≤◌, Some, length}
use Rattle.hm_lsp_positions.specs.Lines.{line_start}
use Rattle.hm_lsp_positions.proofs.positions.line_at.Given as goal

abbrev pub invariant-lines : goal.invariant-lines
invariant-lines l = (line_start l.line l.text ≡ Some l.start) × (l.start ≤ l.offset) × (l.line ≤ l.start)

abbrev pub decreases-lines : goal.decreases-lines
decreases-lines l = length l.text - l.start
