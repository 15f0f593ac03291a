use Rattle.std.proofs.Common.{◌++◌, List, map, take}
use Rattle.hm_names.specs.Described.{ConstructorDescription, declared_constructors}
use Rattle.hm_scope_tables.specs.KnownTables.{known_arity, KnowsConstructors}
use Rattle.hm_scope_entities.proofs.tables.add_declared_constructors.Given as goal

abbrev pub invariant-decls : goal.invariant-decls
invariant-decls l = (before : List ConstructorDescription) → KnowsConstructors before (map known_arity l.initial.constructors.entries) → KnowsConstructors (before ++ declared_constructors l.home (take l.decl-index l.decls)) (map known_arity l.constructors.entries)
