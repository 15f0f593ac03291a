use Rattle.std.proofs.Common.{◌++◌, List, map, take}
use Rattle.hm_names.specs.Described.{TypeDescription, declared_types}
use Rattle.hm_names.specs.Found.{KnownSynonym}
use Rattle.hm_scope_tables.specs.KnownTables.{known_arity, KnowsTypes}
use Rattle.hm_scope_entities.proofs.tables.add_declared_types.Given as goal

abbrev pub invariant-decls : goal.invariant-decls
invariant-decls l = (before : List TypeDescription) (synonyms : List KnownSynonym) → KnowsTypes before (map known_arity l.initial.types.entries) synonyms → KnowsTypes (before ++ declared_types l.home (take l.decl-index l.decls)) (map known_arity l.types.entries) synonyms
