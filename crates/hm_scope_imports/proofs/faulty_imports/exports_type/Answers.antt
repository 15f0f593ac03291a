use Rattle.hm_scope_imports.proofs.FaultyLemmas.{some_type, some_synonym, no_type}
use Rattle.hm_scope_imports.proofs.faulty_imports.exports_type.Goals as goal

pub returns-in-Some : goal.returns-in-Some
returns-in-Some c = let found = rw c.types.ensures.value at c.in-Some.ensures in some_type c.args.interface.now c.args.text.now c.in-Some.field-0.now found.0 found.1

pub returns-in-Some-entry_named : goal.returns-in-Some-entry_named
returns-in-Some-entry_named c = let found = rw c.synonyms.ensures.value at c.in-Some-entry_named.ensures in some_synonym c.args.interface.now c.args.text.now c.in-Some-entry_named.field-0.now found.0 found.1

pub returns-in-None-entry_named : goal.returns-in-None-entry_named
returns-in-None-entry_named c = no_type c.args.interface.now c.args.text.now (rw c.types.ensures.value at c.in-None.ensures) (rw c.synonyms.ensures.value at c.in-None-entry_named.ensures)
