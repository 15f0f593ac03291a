use Rattle.std.proofs.Common.{◌++◌, map, take, List, ℕ}
use Rattle.hm_scope_interface_entries.specs.KnownExports.{KnowsConstructors, ConstructorSource, imported}
use Rattle.hm_scope_interface_entries.proofs.known_exports.note_constructor_entries.Given as goal

abbrev pub invariant-loop-entry : goal.invariant-loop-entry
invariant-loop-entry l = (m : List ℕ) (ds : List ConstructorSource) → KnowsConstructors m ds l.initial.constructors → KnowsConstructors m (ds ++ map imported (take l.entry-index l.entries)) l.constructors
