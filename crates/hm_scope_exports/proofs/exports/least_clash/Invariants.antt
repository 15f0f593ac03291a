use Rattle.std.proofs.Common.{List, option_map, take}
use Rattle.hm_names.specs.Bindings.{Pair}
use Rattle.hm_scope_exports.specs.ExportItems.{IsLeastOf}
use Rattle.hm_scope_tables.specs.Tables.{IsTable}
use Rattle.hm_scope_exports.proofs.exports.least_clash.Given as goal

abbrev pub invariant-loop-pair : goal.invariant-loop-pair
invariant-loop-pair l = (all : List Pair) → IsTable all l.table → IsLeastOf all (take l.pair-index l.given) (option_map (λ x. x.now) l.least)
