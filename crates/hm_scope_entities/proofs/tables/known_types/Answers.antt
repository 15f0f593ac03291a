use Rattle.std.proofs.Common.{[], map}
use Rattle.hm_scope_tables.specs.KnownTables.{known_arity, known_imported, KnowsTypes}
use Rattle.hm_scope_entities.proofs.FirstDescriptions.{knows_nothing}
use Rattle.hm_scope_entities.proofs.tables.known_types.Goals as goal

pub returns : goal.returns
returns c =
    let no_types : KnowsTypes [] (map known_arity c.new-types.result.entries) (map known_imported c.new-imported.result.entries) =
    knows_nothing _ _ c.new-types.ensures.empty c.new-imported.ensures.empty in
    c.in_ok-add_imported_types.ensures _ (c.in_ok-add_declared_types.ensures [] (map known_imported c.new-imported.result.entries) no_types)
