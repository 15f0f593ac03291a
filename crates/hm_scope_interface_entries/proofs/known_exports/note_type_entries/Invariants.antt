use Rattle.std.proofs.Common.{◌++◌, map, take, List}
use Rattle.hm_names.specs.Described.{TypeDescription}
use Rattle.hm_scope_interface_entries.specs.KnownExports.{KnowsTypes}
use Rattle.hm_scope_interface_entries.proofs.FirstTables.{type_of_entry}
use Rattle.hm_scope_interface_entries.proofs.known_exports.note_type_entries.Given as goal

abbrev pub invariant-loop-entry : goal.invariant-loop-entry
invariant-loop-entry l = (ds : List TypeDescription) → KnowsTypes ds l.initial.types → KnowsTypes (ds ++ map type_of_entry (take l.entry-index l.entries)) l.types
