use Rattle.std.proofs.Common.{◌≡◌, ◌≤◌, Some, length}
use Rattle.hm_lsp_positions.specs.Lines.{line_start}
use Rattle.hm_lsp_positions.proofs.lines.line_start.Given as goal

abbrev pub invariant-lines : goal.invariant-lines
invariant-lines l = (line_start l._number l.text ≡ Some l.start) × (l.start ≤ length l.text)
