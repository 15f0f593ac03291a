use Rattle.std.proofs.Common.{◌≡◌, take}
use Rattle.hm_syntax.specs.Names.{Identifier}
use Rattle.hm_names.specs.declared.faults.Fault.{Fault}
use Rattle.hm_names.specs.declared.faults.Kind.TheVariants.{NotExported}
use Rattle.hm_names.specs.Bindings.{Adds}
use Rattle.hm_names.specs.Entities.{Belongs}
use Rattle.hm_names.specs.Faults.Phases.{fault}
use Rattle.hm_names.proofs.AddedPairs.{ForEach}
use Rattle.hm_scope_imports.proofs.faulty_imports.add_part_faults.Given as goal

abbrev pub invariant-loop-part : goal.invariant-loop-part
invariant-loop-part l = Adds l.initial.faults.items l.faults.items (ForEach (λ (c : Identifier) (g : Fault). (¬ Belongs l.interface l.owner.text c.text) × (fault NotExported c ≡ g)) (take l.part-index l.parts))
