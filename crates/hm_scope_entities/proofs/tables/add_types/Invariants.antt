use Rattle.std.proofs.Common.{◌++◌, List, map, take}
use Rattle.hm_names.specs.Described.{TypeDescription}
use Rattle.hm_names.specs.Found.{KnownSynonym}
use Rattle.hm_scope_tables.specs.KnownTables.{known_arity, type_description, KnowsTypes}
use Rattle.hm_scope_entities.proofs.tables.add_types.Given as goal

abbrev pub invariant-entries : goal.invariant-entries
invariant-entries l = (before : List TypeDescription) (synonyms : List KnownSynonym) → KnowsTypes before (map known_arity l.initial.types.entries) synonyms → KnowsTypes (before ++ map type_description (take l.entry-index l.entries)) (map known_arity l.types.entries) synonyms
