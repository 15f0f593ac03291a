use Rattle.std.proofs.Common.{◌≡◌, ◌≤◌, ◌*◌, take}
use Rattle.hm_lsp_positions.specs.Units.{units}
use Rattle.hm_lsp_positions.proofs.units.units.Given as goal

abbrev pub invariant-loop-byte : goal.invariant-loop-byte
invariant-loop-byte l = (l.sum ≡ units l.encoding (take l.byte-index l.text)) × (l.sum ≤ 2 * l.byte-index)
