use Rattle.hm_scope_imports.proofs.GatheredLemmas.{opened_type, opened_none}
use Rattle.hm_scope_imports.proofs.selections.gather_opened.Goals as goal

pub returns-in_default : goal.returns-in_default
returns-in_default c = rw (c.in-Con.is, c.in-All.is)
    (opened_none c.args.interface.now c.args.opened.now c.in-Con.name (rw (c.types.ensures.value, c.as_str.ensures) at c.in_default.ensures))

pub returns-in_ok-insert-in-All : goal.returns-in_ok-insert-in-All
returns-in_ok-insert-in-All c =
    let found = rw (c.types.ensures.value, c.as_str.ensures) at c.in-Some-entry_named.ensures in
    rw (c.in-Con.is, c.in-All.is)
    (opened_type c.args.interface.now c.args.opened.now c.insert.new.self c.in-Con.name c.in-Some-entry_named.entry.now c.types.ensures.valid.types found.0 found.1
    (rw (c.as_str-module.ensures, c.as_str-in-All.ensures) at c.in_ok-insert-in-All.ensures))
