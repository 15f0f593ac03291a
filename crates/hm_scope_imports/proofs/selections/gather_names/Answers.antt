use Rattle.hm_scope_imports.proofs.GatheredLemmas.{named_value, named_type}
use Rattle.hm_scope_imports.proofs.selections.gather_names.Goals as goal

pub returns-in_ok-insert-in-Var : goal.returns-in_ok-insert-in-Var
returns-in_ok-insert-in-Var c = rw c.in-Var.is
    (named_value c.args.list_use c.args.interface.now c.args.names.now c.insert.new.self c.in-Var.name (rw c.as_str.ensures at c.in_ok-insert-in-Var.ensures))

pub returns-in_ok-gather_behind-in-Con : goal.returns-in_ok-gather_behind-in-Con
returns-in_ok-gather_behind-in-Con c = rw c.in-Con.is
    (named_type c.args.list_use c.args.interface.now c.args.names.now c.insert-in-Con.new.self c.gather_behind.new.names c.in-Con.name c.in-Con.subs (rw c.as_str-in-Con.ensures at c.in_ok-insert-in-Con.ensures) c.in_ok-gather_behind-in-Con.ensures)
