use Rattle.std.proofs.Common.{◌≡◌, List, take}
use Rattle.hm_types.specs.declared.Entity.{Entity}
use Rattle.hm_types.specs.Interfaces.{Exports as Interface}
use Rattle.hm_syntax.specs.Names.{Identifier}
use Rattle.hm_syntax.specs.declared.ast.Module.{Module}
use Rattle.hm_names.specs.declared.faults.Fault.{Fault}
use Rattle.hm_names.specs.declared.faults.Kind.TheVariants.{Unbound}
use Rattle.hm_names.specs.Bindings.{Pair, Adds}
use Rattle.hm_scope_export_items.specs.ExportGroups.{IsOwned}
use Rattle.hm_scope_exports.specs.ExportItems.{IsExporterOf}
use Rattle.hm_names.specs.Exports.{HasConstructor}
use Rattle.hm_names.specs.Faults.Phases.{fault}
use Rattle.hm_names.proofs.AddedPairs.{ForEach}
use Rattle.hm_scope_exports.proofs.exports.add_parts.Given as goal

abbrev pub invariant-loop-part : goal.invariant-loop-part
invariant-loop-part l = (m : Module) (fs : List Interface) → IsExporterOf m fs l.exporter →
    Adds l.initial.out.items l.out.items (ForEach (λ (c : Identifier) (p : Pair). IsOwned m fs l.owner p × (p.text ≡ c.text)) (take l.part-index l.parts))
    × Adds l.initial.faults.items l.faults.items (ForEach (λ (c : Identifier) (g : Fault). ((k : Entity) → ¬ (HasConstructor m fs l.owner c.text k)) × (fault Unbound c ≡ g)) (take l.part-index l.parts))
