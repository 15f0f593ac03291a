use Rattle.std.proofs.Common.{◌++◌, take}
use Rattle.hm_names.specs.Described.{declared_types}
use Rattle.hm_scope_interface_entries.specs.KnownExports.{KnowsTypes}
use Rattle.hm_scope_interface_entries.proofs.FirstTables.{types_of_all}
use Rattle.hm_scope_interface_entries.proofs.known_exports.known_types.Given as goal

abbrev pub invariant-loop-interface : goal.invariant-loop-interface
invariant-loop-interface l = KnowsTypes (declared_types l.home l.decls ++ types_of_all (take l.interface-index l.interfaces)) l.known
