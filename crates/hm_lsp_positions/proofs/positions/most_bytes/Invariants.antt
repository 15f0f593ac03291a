use Rattle.std.proofs.Common.{◌≡◌, ◌≤◌, ◌*◌, take}
use Rattle.hm_lsp_positions.specs.Units.{units}
use Rattle.hm_lsp_positions.proofs.positions.most_bytes.Given as goal

abbrev pub invariant-bytes : goal.invariant-bytes
invariant-bytes l = (l.sum ≡ units l.encoding (take l.at l.line)) × (l.sum ≤ l.column) × (l.sum ≤ 2 * l.at)
