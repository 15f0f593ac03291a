use Rattle.std.proofs.Common.{[], map}
use Rattle.hm_scope_tables.specs.KnownTables.{known_arity, KnowsConstructors}
use Rattle.hm_scope_entities.proofs.FirstDescriptions.{knows_no_constructor}
use Rattle.hm_scope_entities.proofs.tables.known_constructors.Goals as goal

pub returns : goal.returns
returns c =
    let none : KnowsConstructors [] (map known_arity c.new-constructors.result.entries) = knows_no_constructor _ c.new-constructors.ensures.empty in
    c.in_ok-add_imported_constructors.ensures _ (c.in_ok-add_declared_constructors.ensures [] none)
