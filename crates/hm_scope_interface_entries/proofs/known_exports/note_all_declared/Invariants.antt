use Rattle.std.proofs.Common.{◌++◌, take, List}
use Rattle.hm_scope_interface_entries.specs.KnownExports.{KnowsConstructors, ConstructorSource, declared_sources}
use Rattle.hm_scope_interface_entries.proofs.known_exports.note_all_declared.Given as goal

abbrev pub invariant-loop-decl : goal.invariant-loop-decl
invariant-loop-decl l = (ds : List ConstructorSource) → KnowsConstructors l.home ds l.initial.constructors → KnowsConstructors l.home (ds ++ declared_sources (take l.decl-index l.decls)) l.constructors
