use Rattle.std.proofs.Common.{◌≡◌, map, take}
use Rattle.hm_types_prelude.specs.Polish.{read_as}
use Rattle.hm_types.specs.StandardPrelude.{constructor_entry}
use Rattle.hm_types_prelude.proofs.standard_prelude.constructors.Given as goal

abbrev pub invariant-loop-row : goal.invariant-loop-row
invariant-loop-row l = l.entries.items ≡ map (λ row. constructor_entry row.0.now row.1.now row.2 (read_as row.4.now)) (take l.row-index l.table)
