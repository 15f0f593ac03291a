use Rattle.std.proofs.Common.{◌≡◌, [], map, take}
use Rattle.hm_types.specs.Interfaces.{AreOrdered}
use Rattle.hm_names.specs.declared.cores.Exported.{Exported}
use Rattle.hm_scope_interface_entries.specs.ExportedEntries.{AreValueEntries, AreValuesOf}
use Rattle.hm_names.specs.ModuleCores.{ModuleCore}
use Rattle.hm_names.specs.SchemeTables.{scheme_of}
use Rattle.hm_scope_interface_entries.proofs.entries.add_values.Given as goal

abbrev pub invariant-loop-exported : goal.invariant-loop-exported
invariant-loop-exported l = (c : ModuleCore) → AreValuesOf c l.values → AreOrdered (map (λ (x : Exported). x.name) l.exports) → l.initial.entries.items ≡ [] → AreValueEntries c (scheme_of l.values.schemes.now) (take l.exported-index l.exports) l.entries.items
