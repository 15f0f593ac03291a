use Rattle.std.specs.Prelude.{option_map}
use Rattle.std.specs.Borrow.{Bor}
use Rattle.hm_types.specs.Interfaces.{Exports as Interface}
use Rattle.hm_uses_declarations.specs.Senses.{sense_of}
use Rattle.hm_uses_header.proofs.Listed.{variable_added, type_added}
use Rattle.hm_uses_header.proofs.imports.add_item.Goals as goal

pub returns-in_ok-add-in-Var : goal.returns-in_ok-add-in-Var
returns-in_ok-add-in-Var c = rw c.in-Var.is (variable_added (option_map (λ (f : Bor Interface). f.now) c.args.interface) c.args.found.now.items c.add.new.found.items c.in-Var.name (sense_of c.of_item-meaning.result) c.in_ok-add-in-Var.ensures c.of_item-meaning.ensures)

pub returns-in_ok-add_subs-in-Con : goal.returns-in_ok-add_subs-in-Con
returns-in_ok-add_subs-in-Con c =
    rw c.in-Con.is (type_added (option_map (λ (f : Bor Interface). f.now) c.args.interface) c.args.found.now.items c.add-in-Con.new.found.items c.in-Con.name (sense_of c.of_item-meaning-in-Con.result) c.in-Con.subs c.add_subs.new.found.items c.in_ok-add-in-Con.ensures c.of_item-meaning-in-Con.ensures c.in_ok-add_subs-in-Con.ensures)
