use Rattle.hm_scope_imports.proofs.FaultyLemmas.{some_value, no_value}
use Rattle.hm_scope_imports.proofs.faulty_imports.exports_value.Goals as goal

pub returns-in-Some : goal.returns-in-Some
returns-in-Some c = let found = rw c.values.ensures.value at c.in-Some.ensures in some_value c.args.interface.now c.args.text.now c.in-Some.field-0.now found.0 found.1

pub returns-in-None : goal.returns-in-None
returns-in-None c = no_value c.args.interface.now c.args.text.now (rw c.values.ensures.value at c.in-None.ensures)
