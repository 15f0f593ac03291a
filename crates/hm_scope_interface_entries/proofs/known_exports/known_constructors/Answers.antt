use Rattle.std.proofs.Common.{[], refl}
use Rattle.hm_scope_interface_entries.specs.KnownExports.{ConstructorSource, source_entity, source_of, declared_sources}
use Rattle.hm_scope_interface_entries.proofs.FirstTables.{nothing_known, more_described, none_described, all_described, joined_imports, sources_of_all, sources_of_one}
use Rattle.hm_scope_interface_entries.proofs.known_exports.known_constructors.Goals as goal

pub loop-interface-init : goal.loop-interface-init
loop-interface-init c = none_described (source_entity c.args.home.now) (λ (d : ConstructorSource). d) source_of sources_of_all sources_of_one joined_imports refl (declared_sources c.args.decls.now) c.args.interfaces.now c.note_all_declared.new.constructors (c.in_ok-note_all_declared.ensures [] (nothing_known (source_entity c.args.home.now) (λ (d : ConstructorSource). d) source_of c.new-known.result c.new-known.ensures.empty))

pub loop-interface-preserved : goal.loop-interface-preserved
loop-interface-preserved c = more_described (source_entity c.args.home.now) (λ (d : ConstructorSource). d) source_of sources_of_all sources_of_one joined_imports refl (declared_sources c.args.decls.now) c.args.interfaces.now c.loop-interface.interface-index c.interface-item.result c.note_constructor_entries.new.constructors c.loop-interface-test.true c.interface-item.is
    (rw c.constructors.ensures.value at (c.in_ok-note_constructor_entries.ensures c.args.home.now _ c.loop-interface.invariant))

pub returns : goal.returns
returns c = all_described (source_entity c.args.home.now) (λ (d : ConstructorSource). d) source_of sources_of_all sources_of_one joined_imports refl (declared_sources c.args.decls.now) c.args.interfaces.now c.loop-interface.interface-index c.loop-interface.known c.loop-interface-test.false c.loop-interface.invariant
