use Rattle.std.proofs.Common.{◌∷◌, [], refl}
use Rattle.hm_syntax.specs.Trees.{Declaration}
use Rattle.hm_scope_interface_entries.specs.KnownExports.{ConstructorSource, source_entity, source_of, declared_sources}
use Rattle.hm_scope_interface_entries.proofs.FirstTables.{more_described, none_described, all_described, joined_sources}
use Rattle.hm_scope_interface_entries.proofs.known_exports.note_all_declared.Goals as goal

pub loop-decl-init : goal.loop-decl-init
loop-decl-init c = λ ds h. none_described (source_entity c.args.home.now) (λ (d : ConstructorSource). d) source_of declared_sources (λ (d : Declaration). declared_sources (d ∷ [])) joined_sources refl ds c.args.decls.now c.args.constructors.now h

pub loop-decl-preserved : goal.loop-decl-preserved
loop-decl-preserved c = λ ds h. more_described (source_entity c.args.home.now) (λ (d : ConstructorSource). d) source_of declared_sources (λ (d : Declaration). declared_sources (d ∷ [])) joined_sources refl ds c.args.decls.now c.loop-decl.decl-index c.decl-item.result c.note_declared.new.constructors c.loop-decl-test.true c.decl-item.is
    (c.in_ok-note_declared.ensures _ (c.loop-decl.invariant ds h))

pub returns : goal.returns
returns c = λ ds h. all_described (source_entity c.args.home.now) (λ (d : ConstructorSource). d) source_of declared_sources (λ (d : Declaration). declared_sources (d ∷ [])) joined_sources refl ds c.args.decls.now c.loop-decl.decl-index c.loop-decl.constructors c.loop-decl-test.false (c.loop-decl.invariant ds h)
