use Rattle.std.proofs.Common.{◌∷◌, [], ◌∙◌, refl, List, Bor}
use Rattle.hm_types.specs.declared.entries.ValueEntry.{ValueEntry}
use Rattle.hm_scope_interface_entries.proofs.FirstTables.{noted, more_described, none_described, all_described, joined_same}
use Rattle.hm_scope_interface_entries.proofs.known_exports.note_value_entries.Goals as goal

pub loop-entry-init : goal.loop-entry-init
loop-entry-init c = λ ds h. none_described (λ (d : ValueEntry). d.entity) (λ (d : ValueEntry). d) (λ (v : Bor ValueEntry). v.now) (λ (xs : List ValueEntry). xs) (λ (r : ValueEntry). r ∷ []) joined_same refl ds c.args.entries.now c.args.values.now h

pub loop-entry-preserved : goal.loop-entry-preserved
loop-entry-preserved c = λ ds h. more_described (λ (d : ValueEntry). d.entity) (λ (d : ValueEntry). d) (λ (v : Bor ValueEntry). v.now) (λ (xs : List ValueEntry). xs) (λ (r : ValueEntry). r ∷ []) joined_same refl ds c.args.entries.now c.loop-entry.entry-index c.entry-item.result c.note.new.table c.loop-entry-test.true c.entry-item.is
    (noted (λ (d : ValueEntry). d.entity) (λ (d : ValueEntry). d) (λ (v : Bor ValueEntry). v.now) _ c.entry-item.result c.loop-entry.values c.note.new.table c.of-key.result _ (c.of-key.ensures ∙ c.of.ensures) refl (c.loop-entry.invariant ds h) c.in_ok-note.ensures)

pub returns : goal.returns
returns c = λ ds h. all_described (λ (d : ValueEntry). d.entity) (λ (d : ValueEntry). d) (λ (v : Bor ValueEntry). v.now) (λ (xs : List ValueEntry). xs) (λ (r : ValueEntry). r ∷ []) joined_same refl ds c.args.entries.now c.loop-entry.entry-index c.loop-entry.values c.loop-entry-test.false (c.loop-entry.invariant ds h)
