use Rattle.hm_scope_imports.proofs.FaultyLemmas.{no_owner, no_constructor, its_owner}
use Rattle.hm_scope_imports.proofs.faulty_imports.belongs.Goals as goal

pub returns-in_default : goal.returns-in_default
returns-in_default c = no_owner c.args.interface.now c.args.owner.now c.args.text.now (rw c.types.ensures.value at c.in_default.ensures)

pub returns-in_default-entry_named : goal.returns-in_default-entry_named
returns-in_default-entry_named c = no_constructor c.args.interface.now c.args.owner.now c.args.text.now (rw c.constructors.ensures.value at c.in_default-entry_named.ensures)

pub returns : goal.returns
returns c =
    let type_found = rw c.types.ensures.value at c.in-Some.ensures in
    let found = rw c.constructors.ensures.value at c.in-Some-entry_named.ensures in
    its_owner c.args.interface.now c.args.owner.now c.args.text.now c.is_same.result c.in-Some.entry.now c.in-Some-entry_named.constructor.now c.types.ensures.valid.types c.types.ensures.valid.constructors
    type_found.0 type_found.1 found.0 found.1 c.is_same.ensures
