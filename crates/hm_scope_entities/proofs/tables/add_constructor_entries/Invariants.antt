use Rattle.std.proofs.Common.{◌++◌, List, map, take}
use Rattle.hm_names.specs.Described.{ConstructorDescription}
use Rattle.hm_scope_tables.specs.KnownTables.{known_arity, constructor_description, KnowsConstructors}
use Rattle.hm_scope_entities.proofs.tables.add_constructor_entries.Given as goal

abbrev pub invariant-entries : goal.invariant-entries
invariant-entries l = (before : List ConstructorDescription) → KnowsConstructors before (map known_arity l.initial.constructors.entries) → KnowsConstructors (before ++ map constructor_description (take l.entry-index l.entries)) (map known_arity l.constructors.entries)
