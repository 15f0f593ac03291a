use Rattle.hm_scope_imports.proofs.GatheredLemmas.{behind_alone, behind_none, behind_parts}
use Rattle.hm_scope_imports.proofs.selections.gather_behind.Goals as goal

pub returns-in_default : goal.returns-in_default
returns-in_default c = rw c.in-Some.is
    (behind_none c.args.list_use c.args.interface.now c.args.name.now c.args.names.now c.in-Some.parts (rw (c.types.ensures.value, c.as_str-in-Some.ensures) at c.in_default.ensures))

pub returns-in_ok-insert-in-Hides : goal.returns-in_ok-insert-in-Hides
returns-in_ok-insert-in-Hides c = rw c.in-None.is
    (behind_alone c.args.list_use c.args.interface.now c.args.name.now c.args.names.now c.insert.new.self c.in-Hides.is (rw c.as_str.ensures at c.in_ok-insert-in-Hides.ensures))

pub returns-in_ok-gather_parts-in-Some : goal.returns-in_ok-gather_parts-in-Some
returns-in_ok-gather_parts-in-Some c =
    let found = rw (c.types.ensures.value, c.as_str-in-Some.ensures) at c.in-Some-entry_named.ensures in
    rw c.in-Some.is
    (behind_parts c.args.list_use c.args.interface.now c.args.name.now c.args.names.now c.gather_parts.new.names c.in-Some.parts c.in-Some-entry_named.entry.now c.types.ensures.valid.types found.0 found.1
    (rw c.as_slice.ensures at c.in_ok-gather_parts-in-Some.ensures))
