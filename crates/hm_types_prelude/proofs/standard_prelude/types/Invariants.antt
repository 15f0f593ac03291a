use Rattle.std.proofs.Common.{◌≡◌, map, take}
use Rattle.hm_types.specs.StandardPrelude.{type_entry}
use Rattle.hm_types_prelude.proofs.standard_prelude.types.Given as goal

abbrev pub invariant-loop-name : goal.invariant-loop-name
invariant-loop-name l = l.entries.items ≡ map (λ row. type_entry row.0.now row.1) (take l.name-index l.table)
