use Rattle.std.proofs.Common.{◌++◌, List, map, take}
use Rattle.hm_names.specs.Described.{ConstructorDescription, imported_constructors}
use Rattle.hm_scope_tables.specs.KnownTables.{known_arity, KnowsConstructors}
use Rattle.hm_scope_entities.proofs.tables.add_imported_constructors.Given as goal

abbrev pub invariant-interfaces : goal.invariant-interfaces
invariant-interfaces l = (before : List ConstructorDescription) → KnowsConstructors before (map known_arity l.initial.constructors.entries) → KnowsConstructors (before ++ imported_constructors (map (λ f. f.now) (take l.interface-index l.interfaces))) (map known_arity l.constructors.entries)
