use Rattle.std.proofs.Common.{◌≡◌, [], map, take}
use Rattle.hm_types.specs.Interfaces.{AreOrdered}
use Rattle.hm_names.specs.declared.cores.Exported.{Exported}
use Rattle.hm_scope_interface_entries.specs.ExportedEntries.{AreTypeEntries, AreSynonymEntries, AreTypesOf}
use Rattle.hm_names.specs.ModuleCores.{ModuleCore}
use Rattle.hm_scope_interface_entries.proofs.entries.add_types.Given as goal

abbrev pub invariant-loop-exported : goal.invariant-loop-exported
invariant-loop-exported l = (c : ModuleCore) → AreTypesOf c l.known → AreOrdered (map (λ (x : Exported). x.name) l.exports) →
    (l.initial.types.items ≡ [] → AreTypeEntries c (take l.exported-index l.exports) l.types.items) × (l.initial.synonyms.items ≡ [] → AreSynonymEntries c (take l.exported-index l.exports) l.synonyms.items)
