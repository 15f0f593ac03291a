use Rattle.std.proofs.Common.{◌≡◌}
use Rattle.std.proofs.lemmas.Bool.{both_ways}
use Rattle.hm_names.specs.declared.faults.Fault.{Fault}
use Rattle.hm_names.specs.declared.faults.Kind.TheVariants.{NotExported}
use Rattle.hm_names.specs.Entities.{Belongs}
use Rattle.hm_names.specs.Faults.Phases.{fault}
use Rattle.hm_names.proofs.AddedPairs.{adds_where}
use Rattle.hm_scope_imports.proofs.faulty_imports.add_part_fault.Goals as goal

pub returns : goal.returns
returns c = adds_where c.args.faults.now.items c.add_fault.new.faults.items (¬ Belongs c.args.interface.now c.args.owner.now.text c.args.part.now.text) (λ (g : Fault). fault NotExported c.args.part.now ≡ g)
    (λ b. both_ways c.belongs.result c.if-belongs.false ((rw (c.as_str.ensures, c.as_str-2.ensures) at c.belongs.ensures).1 b)) c.in_ok-add_fault.ensures
