use Rattle.std.proofs.Common.{◌≡◌, [], map, take}
use Rattle.hm_types.specs.Interfaces.{AreOrdered}
use Rattle.hm_names.specs.declared.cores.Exported.{Exported}
use Rattle.hm_scope_interface_entries.specs.ExportedEntries.{AreConstructorEntries, AreConstructorsOf}
use Rattle.hm_names.specs.ModuleCores.{ModuleCore}
use Rattle.hm_scope_interface_entries.proofs.entries.add_constructors.Given as goal

abbrev pub invariant-loop-exported : goal.invariant-loop-exported
invariant-loop-exported l = (c : ModuleCore) → l.home ≡ c.name → AreConstructorsOf c l.known → AreOrdered (map (λ (x : Exported). x.name) l.exports) → l.initial.constructors.items ≡ [] → AreConstructorEntries c (take l.exported-index l.exports) l.constructors.items
