use Rattle.std.proofs.Common.{sym}
use Rattle.hm_names.specs.Entities.{a_value}
use Rattle.hm_uses_header.proofs.Entries.{no_value}
use Rattle.hm_uses_header.proofs.items.exported_variable.Goals as goal

pub returns-in-Some : goal.returns-in-Some
returns-in-Some c = let found = rw c.values.ensures.value at c.in-Some.ensures in a_value found.0 found.1 (sym c.of.ensures)

pub returns-in-None : goal.returns-in-None
returns-in-None c = no_value c.args.interface.now c.args.text.now (rw c.values.ensures.value at c.in-None.ensures)
