use Rattle.std.specs.Prelude.{option_map}
use Rattle.std.specs.Borrow.{Bor}
use Rattle.hm_types.specs.Interfaces.{Exports as Interface}
use Rattle.hm_uses_declarations.specs.Senses.{sense_of}
use Rattle.hm_uses_header.proofs.Listed.{constructor_added, hidden_variable, hidden_all, hidden_some, hidden_both}
use Rattle.hm_uses_header.proofs.imports.add_hidden.Goals as goal

pub returns-in-Var : goal.returns-in-Var
returns-in-Var c = rw c.in-Var.is (hidden_variable (option_map (λ (f : Bor Interface). f.now) c.args.interface) c.args.found.now.items c.add_item.new.found.items c.in-Var.field-0 (rw c.in-Var.is at c.in_ok-add_item.ensures))

pub returns-in-All : goal.returns-in-All
returns-in-All c = rw (c.in-Con.is, c.in-All.is) (hidden_all (option_map (λ (f : Bor Interface). f.now) c.args.interface) c.args.found.now.items c.add_item.new.found.items c.in-Con.name (rw (c.in-Con.is, c.in-All.is) at c.in_ok-add_item.ensures))

pub returns-in-Some : goal.returns-in-Some
returns-in-Some c = rw (c.in-Con.is, c.in-Some.is) (hidden_some (option_map (λ (f : Bor Interface). f.now) c.args.interface) c.args.found.now.items c.add_item.new.found.items c.in-Con.name c.in-Some.field-0 (rw (c.in-Con.is, c.in-Some.is) at c.in_ok-add_item.ensures))

pub returns-in_ok-add-in-None : goal.returns-in_ok-add-in-None
returns-in_ok-add-in-None c =
    rw (c.in-Con.is, c.in-None.is) (hidden_both (option_map (λ (f : Bor Interface). f.now) c.args.interface) c.args.found.now.items c.add_item.new.found.items c.in-Con.name c.add.new.found.items (rw (c.in-Con.is, c.in-None.is) at c.in_ok-add_item.ensures)
    (constructor_added (option_map (λ (f : Bor Interface). f.now) c.args.interface) c.add_item.new.found.items c.add.new.found.items c.in-Con.name (sense_of c.of_item-meaning.result) c.in_ok-add-in-None.ensures c.of_item-meaning.ensures))
