use Rattle.std.proofs.Common.{◌++◌, map, take, List}
use Rattle.hm_scope_interface_entries.specs.KnownExports.{KnowsConstructors, ConstructorSource, declared}
use Rattle.hm_scope_interface_entries.proofs.known_exports.note_constructors.Given as goal

abbrev pub invariant-loop-constr : goal.invariant-loop-constr
invariant-loop-constr l = (ds : List ConstructorSource) → KnowsConstructors l.home ds l.initial.constructors → KnowsConstructors l.home (ds ++ map (declared l.name l.params) (take l.constr-index l.constrs)) l.constructors
