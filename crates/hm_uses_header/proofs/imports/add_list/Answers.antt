use Rattle.std.specs.Prelude.{option_map}
use Rattle.std.specs.Borrow.{Bor}
use Rattle.hm_types.specs.Interfaces.{Exports as Interface}
use Rattle.hm_syntax.specs.declared.ast.ImportList.TheVariants as list
use Rattle.hm_uses_header.proofs.Steps.{adds_nothing}
use Rattle.hm_uses_header.proofs.Listed.{InList}
use Rattle.hm_uses_header.proofs.imports.add_list.Goals as goal

pub returns-in-Every : goal.returns-in-Every
returns-in-Every c = rw c.in-Every.is (adds_nothing (InList (option_map (λ (f : Bor Interface). f.now) c.args.interface) list.Every) c.args.found.now.items)

pub returns-in_ok-add_items-in-Only : goal.returns-in_ok-add_items-in-Only
returns-in_ok-add_items-in-Only c = rw c.in-Only.is (rw c.as_slice.ensures at c.in_ok-add_items-in-Only.ensures)

pub returns-in_ok-add_all_hidden-in-Hiding : goal.returns-in_ok-add_all_hidden-in-Hiding
returns-in_ok-add_all_hidden-in-Hiding c = rw c.in-Hiding.is (rw c.as_slice-in-Hiding.ensures at c.in_ok-add_all_hidden-in-Hiding.ensures)
