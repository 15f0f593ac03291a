use Rattle.std.proofs.Common.{◌≡◌}
use Rattle.hm_syntax.specs.Names.{Identifier}
use Rattle.hm_names.specs.declared.faults.Fault.{Fault}
use Rattle.hm_names.specs.declared.faults.Kind.TheVariants.{NotExported}
use Rattle.hm_names.specs.Entities.{Belongs}
use Rattle.hm_names.specs.Faults.Phases.{fault}
use Rattle.hm_names.proofs.AddedPairs.{for_more, for_all}
use Rattle.hm_scope_imports.proofs.faulty_imports.add_part_faults.Goals as goal

pub loop-part-preserved : goal.loop-part-preserved
loop-part-preserved c = for_more (λ (k : Identifier) (g : Fault). (¬ Belongs c.args.interface.now c.args.owner.now.text k.text) × (fault NotExported k ≡ g)) c.args.faults.now.items c.loop-part.faults.items c.add_part_fault.new.faults.items c.args.parts.now c.loop-part.part-index c.part-item.result c.loop-part-test.true c.part-item.is c.loop-part.invariant c.in_ok-add_part_fault.ensures

pub returns : goal.returns
returns c = for_all (λ (k : Identifier) (g : Fault). (¬ Belongs c.args.interface.now c.args.owner.now.text k.text) × (fault NotExported k ≡ g)) c.args.faults.now.items c.loop-part.faults.items c.args.parts.now c.loop-part.part-index c.loop-part-test.false c.loop-part.invariant
