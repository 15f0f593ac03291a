use Rattle.std.proofs.Common.{◌++◌, List, map, take}
use Rattle.std.proofs.lemmas.List.{map-append}
use Rattle.hm_names.specs.Described.{TypeDescription}
use Rattle.hm_scope_tables.specs.KnownTables.{known_arity, known_imported, synonym_description, KnowsTypes}
use Rattle.hm_scope_entities.proofs.FirstDescriptions.{described_more}
use Rattle.hm_scope_entities.proofs.tables.add_synonyms.Goals as goal

pub entries-preserved : goal.entries-preserved
entries-preserved c = λ before known.
    described_more (map synonym_description) (map-append synonym_description) (λ (ds : List TypeDescription). KnowsTypes ds (map known_arity c.add_synonym.new.types.entries) (map known_imported c.add_synonym.new.synonyms.entries))
    before c.args.entries.now c.entries.entry-index c.entry-item.result c.entries-test.true c.entry-item.is
    (c.in_ok-add_synonym.ensures (before ++ map synonym_description (take c.entries.entry-index c.args.entries.now)) (c.entries.invariant before known))
