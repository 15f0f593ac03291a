use Rattle.std.proofs.Common.{◌++◌, [], refl, subst, map, take, List, Bor}
use Rattle.hm_types.specs.Interfaces.{Exports as Interface}
use Rattle.hm_names.specs.Described.{TypeDescription, declared_types}
use Rattle.hm_scope_interface_entries.specs.KnownExports.{KnowsTypes, meaning_of}
use Rattle.hm_scope_interface_entries.proofs.FirstTables.{nothing_known, more_described, none_described, all_described, joined_interfaces, type_of_entry, synonym_of_entry, types_of_all, types_of_one}
use Rattle.std.proofs.Common.{append_assoc}
use Rattle.hm_scope_interface_entries.proofs.known_exports.known_types.Goals as goal

pub loop-interface-init : goal.loop-interface-init
loop-interface-init c = none_described (λ (d : TypeDescription). d.entity) (λ (d : TypeDescription). d.meaning) meaning_of types_of_all types_of_one joined_interfaces refl (declared_types c.args.home.now c.args.decls.now) c.args.interfaces.now c.note_types.new.types (c.in_ok-note_types.ensures [] (nothing_known (λ (d : TypeDescription). d.entity) (λ (d : TypeDescription). d.meaning) meaning_of c.new-known.result c.new-known.ensures.empty))

pub loop-interface-preserved : goal.loop-interface-preserved
loop-interface-preserved c =
    let before = declared_types c.args.home.now c.args.decls.now ++ types_of_all (take c.loop-interface.interface-index c.args.interfaces.now) in
    let f : Bor Interface = c.interface-item.result in
    more_described (λ (d : TypeDescription). d.entity) (λ (d : TypeDescription). d.meaning) meaning_of types_of_all types_of_one joined_interfaces refl (declared_types c.args.home.now c.args.decls.now) c.args.interfaces.now c.loop-interface.interface-index f c.note_synonym_entries.new.types c.loop-interface-test.true c.interface-item.is
    (subst (λ (l : List TypeDescription). KnowsTypes l c.note_synonym_entries.new.types) (append_assoc before (map type_of_entry f.now.types) (map synonym_of_entry f.now.synonyms))
    (rw c.synonyms.ensures.value at (c.in_ok-note_synonym_entries.ensures _ (rw c.types.ensures.value at (c.in_ok-note_type_entries.ensures _ c.loop-interface.invariant)))))

pub returns : goal.returns
returns c = all_described (λ (d : TypeDescription). d.entity) (λ (d : TypeDescription). d.meaning) meaning_of types_of_all types_of_one joined_interfaces refl (declared_types c.args.home.now c.args.decls.now) c.args.interfaces.now c.loop-interface.interface-index c.loop-interface.known c.loop-interface-test.false c.loop-interface.invariant
