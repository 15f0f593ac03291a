use Rattle.hm_scope_imports.proofs.FaultyLists.{every_fine, hiding_fine, only_faults}
use Rattle.hm_scope_imports.proofs.faulty_imports.add_list_faults.Goals as goal

pub returns-in-Every : goal.returns-in-Every
returns-in-Every c = rw c.in-Every.is (every_fine c.args.interface.now c.args.faults.now.items)

pub returns-in-Hiding : goal.returns-in-Hiding
returns-in-Hiding c = rw c.in-Hiding.is (hiding_fine c.args.interface.now c.args.faults.now.items c.in-Hiding.field-0)

pub returns-in_ok-add_items_faults-in-Only : goal.returns-in_ok-add_items_faults-in-Only
returns-in_ok-add_items_faults-in-Only c = rw c.in-Only.is (only_faults c.args.interface.now c.args.faults.now.items c.add_items_faults.new.faults.items c.in-Only.items (rw c.as_slice.ensures at c.in_ok-add_items_faults-in-Only.ensures))
