use Rattle.std.proofs.Common.{◌++◌, List, map, take, ◌∙◌, refl}
use Rattle.std.proofs.lemmas.List.{map-append}
use Rattle.hm_names.specs.Described.{TypeDescription}
use Rattle.hm_scope_tables.specs.KnownTables.{known_arity, type_description, KnowsTypes}
use Rattle.hm_scope_entities.proofs.FirstDescriptions.{described_more, type_noted}
use Rattle.hm_scope_entities.proofs.tables.add_types.Goals as goal

pub entries-preserved : goal.entries-preserved
entries-preserved c = λ before ss known.
    let r = c.entry-item.result in
    described_more (map type_description) (map-append type_description) (λ (ds : List TypeDescription). KnowsTypes ds (map known_arity c.note_arity.new.table.entries) ss)
    before c.args.entries.now c.entries.entry-index r c.entries-test.true c.entry-item.is
    (type_noted (before ++ map type_description (take c.entries.entry-index c.args.entries.now)) (map known_arity c.entries.types.entries) (map known_arity c.note_arity.new.table.entries) ss
    (known_arity (c.of-in-entries.result, r.arity)) (type_description r) c.in_ok-note_arity.ensures (c.of-in-entries.ensures ∙ c.of.ensures) refl refl (c.entries.invariant before ss known))
