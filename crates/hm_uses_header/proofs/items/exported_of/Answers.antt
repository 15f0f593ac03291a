use Rattle.std.proofs.lemmas.Bool.{both_ways}
use Rattle.hm_uses_header.proofs.Entries.{no_owner, no_owned, other_owner}
use Rattle.hm_uses_header.proofs.items.exported_of.Goals as goal

pub returns-in_default : goal.returns-in_default
returns-in_default c = no_owner c.args.interface.now c.args.of.now c.args.text.now (rw c.types.ensures.value at c.in_default.ensures)

pub returns-in_default-entry_named : goal.returns-in_default-entry_named
returns-in_default-entry_named c = no_owned c.args.interface.now c.args.of.now c.args.text.now (rw c.constructors.ensures.value at c.in_default-entry_named.ensures)

pub returns-then-not-is_same : goal.returns-then-not-is_same
returns-then-not-is_same c =
    let type_found = rw c.types.ensures.value at c.in-Some.ensures in
    let found = rw c.constructors.ensures.value at c.in-Some-entry_named.ensures in
    other_owner c.args.interface.now c.args.of.now c.args.text.now c.in-Some.owner.now c.in-Some-entry_named.entry.now c.types.ensures.valid.types c.types.ensures.valid.constructors
    type_found.0 type_found.1 found.0 found.1 (λ same. both_ways c.is_same.result c.if-not-is_same.true (c.is_same.ensures.1 same))
