use Rattle.std.proofs.Common.{◌++◌, take}
use Rattle.hm_scope_interface_entries.specs.KnownExports.{KnowsConstructors, declared_sources}
use Rattle.hm_scope_interface_entries.proofs.FirstTables.{sources_of_all}
use Rattle.hm_scope_interface_entries.proofs.known_exports.known_constructors.Given as goal

abbrev pub invariant-loop-interface : goal.invariant-loop-interface
invariant-loop-interface l = KnowsConstructors l.home (declared_sources l.decls ++ sources_of_all (take l.interface-index l.interfaces)) l.known
