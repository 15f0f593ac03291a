use Rattle.std.proofs.Common.{◌++◌, List, map, take}
use Rattle.hm_names.specs.Described.{ConstructorDescription, described}
use Rattle.hm_scope_tables.specs.KnownTables.{known_arity, KnowsConstructors}
use Rattle.hm_scope_entities.proofs.tables.add_constructor_row.Given as goal

abbrev pub invariant-constrs : goal.invariant-constrs
invariant-constrs l = (before : List ConstructorDescription) (t : Rattle.hm_syntax.specs.Names.Identifier) → KnowsConstructors before (map known_arity l.initial.constructors.entries) → KnowsConstructors (before ++ map (described l.home t) (take l.constr-index l.constrs)) (map known_arity l.constructors.entries)
