use Rattle.std.proofs.Common.{[], refl, Bor}
use Rattle.hm_types.specs.declared.entries.ValueEntry.{ValueEntry}
use Rattle.hm_scope_interface_entries.proofs.FirstTables.{nothing_known, more_described, none_described, all_described, joined_values, values_of_all, values_of_one}
use Rattle.hm_scope_interface_entries.proofs.known_exports.known_values.Goals as goal

pub loop-interface-init : goal.loop-interface-init
loop-interface-init c = none_described (λ (d : ValueEntry). d.entity) (λ (d : ValueEntry). d) (λ (v : Bor ValueEntry). v.now) values_of_all values_of_one joined_values refl [] c.args.interfaces.now c.new-known.result (nothing_known (λ (d : ValueEntry). d.entity) (λ (d : ValueEntry). d) (λ (v : Bor ValueEntry). v.now) c.new-known.result c.new-known.ensures.empty)

pub loop-interface-preserved : goal.loop-interface-preserved
loop-interface-preserved c = more_described (λ (d : ValueEntry). d.entity) (λ (d : ValueEntry). d) (λ (v : Bor ValueEntry). v.now) values_of_all values_of_one joined_values refl [] c.args.interfaces.now c.loop-interface.interface-index c.interface-item.result c.note_value_entries.new.values c.loop-interface-test.true c.interface-item.is
    (rw c.values.ensures.value at (c.in_ok-note_value_entries.ensures _ c.loop-interface.invariant))

pub returns : goal.returns
returns c = all_described (λ (d : ValueEntry). d.entity) (λ (d : ValueEntry). d) (λ (v : Bor ValueEntry). v.now) values_of_all values_of_one joined_values refl [] c.args.interfaces.now c.loop-interface.interface-index c.loop-interface.known c.loop-interface-test.false c.loop-interface.invariant
