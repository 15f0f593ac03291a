use Rattle.std.proofs.Common.{◌∷◌, [], ◌∙◌, refl, map}
use Rattle.hm_types.specs.declared.entries.TypeEntry.{TypeEntry}
use Rattle.hm_names.specs.Described.{TypeDescription}
use Rattle.hm_scope_interface_entries.specs.KnownExports.{meaning_of}
use Rattle.hm_scope_interface_entries.proofs.FirstTables.{noted, more_described, none_described, all_described, joined_map, type_of_entry}
use Rattle.hm_scope_interface_entries.proofs.known_exports.note_type_entries.Goals as goal

pub loop-entry-init : goal.loop-entry-init
loop-entry-init c = λ ds h. none_described (λ (d : TypeDescription). d.entity) (λ (d : TypeDescription). d.meaning) meaning_of (map type_of_entry) (λ (r : TypeEntry). type_of_entry r ∷ []) (joined_map type_of_entry) refl ds c.args.entries.now c.args.types.now h

pub loop-entry-preserved : goal.loop-entry-preserved
loop-entry-preserved c = λ ds h. more_described (λ (d : TypeDescription). d.entity) (λ (d : TypeDescription). d.meaning) meaning_of (map type_of_entry) (λ (r : TypeEntry). type_of_entry r ∷ []) (joined_map type_of_entry) refl ds c.args.entries.now c.loop-entry.entry-index c.entry-item.result c.note.new.table c.loop-entry-test.true c.entry-item.is
    (noted (λ (d : TypeDescription). d.entity) (λ (d : TypeDescription). d.meaning) meaning_of _ (type_of_entry c.entry-item.result) c.loop-entry.types c.note.new.table c.of-key.result _ (c.of-key.ensures ∙ c.of.ensures) refl (c.loop-entry.invariant ds h) c.in_ok-note.ensures)

pub returns : goal.returns
returns c = λ ds h. all_described (λ (d : TypeDescription). d.entity) (λ (d : TypeDescription). d.meaning) meaning_of (map type_of_entry) (λ (r : TypeEntry). type_of_entry r ∷ []) (joined_map type_of_entry) refl ds c.args.entries.now c.loop-entry.entry-index c.loop-entry.types c.loop-entry-test.false (c.loop-entry.invariant ds h)
