use Rattle.std.proofs.Common.{◌++◌, List, map, take, ◌∙◌, refl}
use Rattle.std.proofs.lemmas.List.{map-append}
use Rattle.hm_names.specs.Described.{ConstructorDescription}
use Rattle.hm_scope_tables.specs.KnownTables.{known_arity, constructor_description, KnowsConstructors}
use Rattle.hm_scope_entities.proofs.FirstDescriptions.{described_more, constructor_noted}
use Rattle.hm_scope_entities.proofs.tables.add_constructor_entries.Goals as goal

pub entries-preserved : goal.entries-preserved
entries-preserved c = λ before known.
    let r = c.entry-item.result in
    described_more (map constructor_description) (map-append constructor_description) (λ (ds : List ConstructorDescription). KnowsConstructors ds (map known_arity c.note_arity.new.table.entries))
    before c.args.entries.now c.entries.entry-index r c.entries-test.true c.entry-item.is
    (constructor_noted (before ++ map constructor_description (take c.entries.entry-index c.args.entries.now)) (map known_arity c.entries.constructors.entries) (map known_arity c.note_arity.new.table.entries)
    (known_arity (c.of-in-entries.result, r.arguments)) (constructor_description r) c.in_ok-note_arity.ensures (c.of-in-entries.ensures ∙ c.of.ensures) refl (c.entries.invariant before known))
