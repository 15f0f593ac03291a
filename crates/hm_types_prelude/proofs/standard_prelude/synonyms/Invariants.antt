use Rattle.std.proofs.Common.{◌≡◌, map, take}
use Rattle.hm_types_prelude.specs.Polish.{read_as}
use Rattle.hm_types.specs.StandardPrelude.{synonym_entry}
use Rattle.hm_types_prelude.proofs.standard_prelude.synonyms.Given as goal

abbrev pub invariant-loop-name : goal.invariant-loop-name
invariant-loop-name l = l.entries.items ≡ map (λ row. synonym_entry row.0.now (read_as row.1.now)) (take l.name-index l.table)
