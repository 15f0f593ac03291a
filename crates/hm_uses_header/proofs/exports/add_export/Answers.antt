use Rattle.hm_uses_declarations.specs.Senses.{sense_of}
use Rattle.hm_uses_header.proofs.Exported.{variable_added, type_added, whole_added}
use Rattle.hm_uses_header.proofs.exports.add_export.Goals as goal

pub returns-in_ok-add-in-Var : goal.returns-in_ok-add-in-Var
returns-in_ok-add-in-Var c = rw c.in-Var.is (variable_added c.args.tables.now c.args.found.now.items c.add.new.found.items c.in-Var.name (sense_of c.by_scope-meaning.result) c.in_ok-add-in-Var.ensures c.by_scope-meaning.ensures)

pub returns-in_ok-add_subs-in-Con : goal.returns-in_ok-add_subs-in-Con
returns-in_ok-add_subs-in-Con c =
    rw c.in-Con.is (type_added c.args.tables.now c.args.found.now.items c.add-in-Con.new.found.items c.in-Con.name (sense_of c.by_scope-meaning-in-Con.result) c.in-Con.subs c.add_subs.new.found.items c.in_ok-add-in-Con.ensures c.by_scope-meaning-in-Con.ensures c.in_ok-add_subs-in-Con.ensures)

pub returns-in_ok-add-in-Whole : goal.returns-in_ok-add-in-Whole
returns-in_ok-add-in-Whole c = rw c.in-Whole.is (whole_added c.args.tables.now c.args.found.now.items c.add-in-Whole.new.found.items c.in-Whole.name (sense_of c.of_whole-meaning.result) c.in_ok-add-in-Whole.ensures c.of_whole-meaning.ensures)
