use Rattle.std.proofs.Common.{take}
use Rattle.hm_scope_interface_entries.specs.KnownExports.{KnowsValues}
use Rattle.hm_scope_interface_entries.proofs.FirstTables.{values_of_all}
use Rattle.hm_scope_interface_entries.proofs.known_exports.known_values.Given as goal

abbrev pub invariant-loop-interface : goal.invariant-loop-interface
invariant-loop-interface l = KnowsValues (values_of_all (take l.interface-index l.interfaces)) l.known
