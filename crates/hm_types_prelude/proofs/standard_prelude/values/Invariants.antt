use Rattle.std.proofs.Common.{◌≡◌, map, take}
use Rattle.hm_types_prelude.specs.Polish.{read_as}
use Rattle.hm_types.specs.StandardPrelude.{value_entry}
use Rattle.hm_types_prelude.proofs.standard_prelude.values.Given as goal

abbrev pub invariant-loop-name : goal.invariant-loop-name
invariant-loop-name l = l.entries.items ≡ map (λ row. value_entry row.0.now (read_as row.2.now)) (take l.name-index l.table)
