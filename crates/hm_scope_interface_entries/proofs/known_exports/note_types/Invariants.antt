use Rattle.std.proofs.Common.{◌++◌, take, List}
use Rattle.hm_names.specs.Described.{TypeDescription, declared_types}
use Rattle.hm_scope_interface_entries.specs.KnownExports.{KnowsTypes}
use Rattle.hm_scope_interface_entries.proofs.known_exports.note_types.Given as goal

abbrev pub invariant-loop-decl : goal.invariant-loop-decl
invariant-loop-decl l = (ds : List TypeDescription) → KnowsTypes ds l.initial.types → KnowsTypes (ds ++ declared_types l.home (take l.decl-index l.decls)) l.types
