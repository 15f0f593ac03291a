use Rattle.std.proofs.Common.{sym}
use Rattle.hm_names.specs.Entities.{a_type, a_synonym}
use Rattle.hm_uses_header.proofs.Entries.{no_type}
use Rattle.hm_uses_header.proofs.items.exported_type.Goals as goal

pub returns-in-Some : goal.returns-in-Some
returns-in-Some c = let found = rw c.types.ensures.value at c.in-Some.ensures in a_type found.0 found.1 (sym c.of.ensures)

pub returns-in-Some-entry_named : goal.returns-in-Some-entry_named
returns-in-Some-entry_named c = let found = rw c.synonyms.ensures.value at c.in-Some-entry_named.ensures in a_synonym found.0 found.1 (sym c.of-in-Some-entry_named.ensures)

pub returns-in-None-entry_named : goal.returns-in-None-entry_named
returns-in-None-entry_named c = no_type c.args.interface.now c.args.text.now (rw c.types.ensures.value at c.in-None.ensures) (rw c.synonyms.ensures.value at c.in-None-entry_named.ensures)
