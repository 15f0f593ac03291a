use Rattle.std.proofs.Common.{All, map, take}
use Rattle.hm_types.specs.Interfaces.{AreOrdered}
use Rattle.hm_names.specs.Cores.{IsTop}
use Rattle.hm_names.specs.declared.cores.Exported.{Exported}
use Rattle.hm_scope_interface_entries.specs.ExportedEntries.{AreValueEntries}
use Rattle.hm_names.specs.ModuleCores.{ModuleCore}
use Rattle.hm_names.specs.SchemeTables.{scheme_of}
use Rattle.hm_scope_interface_entries.proofs.entries.own_value_entries.Given as goal

abbrev pub invariant-loop-exported : goal.invariant-loop-exported
invariant-loop-exported l = (c : ModuleCore) → All (λ (x : Exported). IsTop c x.entity) l.exports → AreOrdered (map (λ (x : Exported). x.name) l.exports) → AreValueEntries c (scheme_of l.schemes) (take l.exported-index l.exports) l.entries.items
