use Rattle.hm_scope_imports.proofs.SelectedPairs.{every_selected, only_selected, hiding_selected}
use Rattle.hm_scope_imports.proofs.selections.Selection.new.Goals as goal

pub returns-in-Every : goal.returns-in-Every
returns-in-Every c = rw c.in-Every.is (every_selected c.args.interface.now)

pub returns-in_ok-listed-in-Only : goal.returns-in_ok-listed-in-Only
returns-in_ok-listed-in-Only c = rw c.in-Only.is (only_selected c.args.interface.now c.in-Only.items c.in_ok-listed-in-Only.field-0 (rw c.as_slice.ensures at c.in_ok-listed-in-Only.ensures))

pub returns-in_ok-listed-in-Hiding : goal.returns-in_ok-listed-in-Hiding
returns-in_ok-listed-in-Hiding c = rw c.in-Hiding.is (hiding_selected c.args.interface.now c.in-Hiding.items c.in_ok-listed-in-Hiding.field-0 (rw c.as_slice-in-Hiding.ensures at c.in_ok-listed-in-Hiding.ensures))
