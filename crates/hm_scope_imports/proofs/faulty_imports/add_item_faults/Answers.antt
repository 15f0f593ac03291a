use Rattle.std.proofs.lemmas.Bool.{both_ways}
use Rattle.hm_syntax.specs.declared.ast.ImportItem.TheVariants as item
use Rattle.hm_syntax.specs.declared.ast.SubItems.TheVariants as subs
use Rattle.hm_scope_imports.proofs.FaultyLemmas.{no_faults, value_fine, value_fault, type_fault, type_alone, type_open, part_faults}
use Rattle.hm_scope_imports.proofs.faulty_imports.add_item_faults.Goals as goal

pub returns-then-exports_value : goal.returns-then-exports_value
returns-then-exports_value c =
    let tells = rw c.as_str.ensures at c.exports_value.ensures in
    rw c.in-Var.is (no_faults c.args.interface.now c.args.faults.now.items (item.Var c.in-Var.name) (value_fine c.args.interface.now c.in-Var.name (tells.0 c.if-exports_value.true)))

pub returns-in_ok-add_fault-in-Var : goal.returns-in_ok-add_fault-in-Var
returns-in_ok-add_fault-in-Var c =
    let tells = rw c.as_str.ensures at c.exports_value.ensures in
    rw c.in-Var.is (value_fault c.args.interface.now c.args.faults.now.items c.add_fault.new.faults.items c.in-Var.name (λ h. both_ways c.exports_value.result c.if-exports_value.false (tells.1 h)) c.in_ok-add_fault-in-Var.ensures)

pub returns-then-not-exports_type : goal.returns-then-not-exports_type
returns-then-not-exports_type c =
    let tells = rw c.as_str-in-Con.ensures at c.exports_type.ensures in
    rw c.in-Con.is (type_fault c.args.interface.now c.args.faults.now.items c.add_fault-then-not-exports_type.new.faults.items c.in-Con.name c.in-Con.subs (λ h. both_ways c.exports_type.result c.if-not-exports_type.true (tells.1 h)) c.in_ok-add_fault-in-Con.ensures)

pub returns-in-None : goal.returns-in-None
returns-in-None c =
    let tells = rw c.as_str-in-Con.ensures at c.exports_type.ensures in
    rw (c.in-Con.is, c.in-None.is) (no_faults c.args.interface.now c.args.faults.now.items (item.Con c.in-Con.name subs.None) (type_alone c.args.interface.now c.in-Con.name (tells.0 c.if-not-exports_type.false)))

pub returns-in-All : goal.returns-in-All
returns-in-All c =
    let tells = rw c.as_str-in-Con.ensures at c.exports_type.ensures in
    rw (c.in-Con.is, c.in-All.is) (no_faults c.args.interface.now c.args.faults.now.items (item.Con c.in-Con.name subs.All) (type_open c.args.interface.now c.in-Con.name (tells.0 c.if-not-exports_type.false)))

pub returns-in_ok-add_part_faults-in-Some : goal.returns-in_ok-add_part_faults-in-Some
returns-in_ok-add_part_faults-in-Some c =
    let tells = rw c.as_str-in-Con.ensures at c.exports_type.ensures in
    rw (c.in-Con.is, c.in-Some.is) (part_faults c.args.interface.now c.args.faults.now.items c.add_part_faults.new.faults.items c.in-Con.name c.in-Some.parts (tells.0 c.if-not-exports_type.false) (rw c.as_slice.ensures at c.in_ok-add_part_faults-in-Some.ensures))
