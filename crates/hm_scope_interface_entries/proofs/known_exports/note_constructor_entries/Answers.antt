use Rattle.std.proofs.Common.{◌∷◌, [], ◌∙◌, refl, map}
use Rattle.hm_types.specs.declared.entries.ConstructorEntry.{ConstructorEntry}
use Rattle.hm_scope_interface_entries.specs.KnownExports.{ConstructorSource, imported, source_entity, source_of}
use Rattle.hm_scope_interface_entries.proofs.FirstTables.{noted, more_described, none_described, all_described, joined_map}
use Rattle.hm_scope_interface_entries.proofs.known_exports.note_constructor_entries.Goals as goal

pub loop-entry-init : goal.loop-entry-init
loop-entry-init c = λ m ds h. none_described (source_entity m) (λ (d : ConstructorSource). d) source_of (map imported) (λ (r : ConstructorEntry). imported r ∷ []) (joined_map imported) refl ds c.args.entries.now c.args.constructors.now h

pub loop-entry-preserved : goal.loop-entry-preserved
loop-entry-preserved c = λ m ds h. more_described (source_entity m) (λ (d : ConstructorSource). d) source_of (map imported) (λ (r : ConstructorEntry). imported r ∷ []) (joined_map imported) refl ds c.args.entries.now c.loop-entry.entry-index c.entry-item.result c.note.new.table c.loop-entry-test.true c.entry-item.is
    (noted (source_entity m) (λ (d : ConstructorSource). d) source_of _ (imported c.entry-item.result) c.loop-entry.constructors c.note.new.table c.of-key.result _ (c.of-key.ensures ∙ c.of.ensures) refl (c.loop-entry.invariant m ds h) c.in_ok-note.ensures)

pub returns : goal.returns
returns c = λ m ds h. all_described (source_entity m) (λ (d : ConstructorSource). d) source_of (map imported) (λ (r : ConstructorEntry). imported r ∷ []) (joined_map imported) refl ds c.args.entries.now c.loop-entry.entry-index c.loop-entry.constructors c.loop-entry-test.false (c.loop-entry.invariant m ds h)
