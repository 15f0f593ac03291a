use Rattle.std.proofs.Common.{◌++◌, List, map, take}
use Rattle.hm_names.specs.Described.{TypeDescription}
use Rattle.hm_scope_tables.specs.KnownTables.{known_arity, known_imported, synonym_description, KnowsTypes}
use Rattle.hm_scope_entities.proofs.tables.add_synonyms.Given as goal

abbrev pub invariant-entries : goal.invariant-entries
invariant-entries l = (before : List TypeDescription) → KnowsTypes before (map known_arity l.initial.types.entries) (map known_imported l.initial.synonyms.entries) → KnowsTypes (before ++ map synonym_description (take l.entry-index l.entries)) (map known_arity l.types.entries) (map known_imported l.synonyms.entries)
