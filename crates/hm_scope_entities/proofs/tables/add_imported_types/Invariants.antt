use Rattle.std.proofs.Common.{◌++◌, List, map, take}
use Rattle.hm_names.specs.Described.{TypeDescription, imported_types}
use Rattle.hm_scope_tables.specs.KnownTables.{known_arity, known_imported, KnowsTypes}
use Rattle.hm_scope_entities.proofs.tables.add_imported_types.Given as goal

abbrev pub invariant-interfaces : goal.invariant-interfaces
invariant-interfaces l = (before : List TypeDescription) → KnowsTypes before (map known_arity l.initial.types.entries) (map known_imported l.initial.synonyms.entries) → KnowsTypes (before ++ imported_types (map (λ f. f.now) (take l.interface-index l.interfaces))) (map known_arity l.types.entries) (map known_imported l.synonyms.entries)
