use Rattle.std.proofs.Common.{◌∷◌, [], refl}
use Rattle.hm_syntax.specs.Trees.{Declaration}
use Rattle.hm_names.specs.Described.{TypeDescription, declared_types}
use Rattle.hm_scope_interface_entries.specs.KnownExports.{meaning_of}
use Rattle.hm_scope_interface_entries.proofs.FirstTables.{more_described, none_described, all_described, joined_types}
use Rattle.hm_scope_interface_entries.proofs.known_exports.note_types.Goals as goal

pub loop-decl-init : goal.loop-decl-init
loop-decl-init c = λ ds h. none_described (λ (d : TypeDescription). d.entity) (λ (d : TypeDescription). d.meaning) meaning_of (declared_types c.args.home.now) (λ (d : Declaration). declared_types c.args.home.now (d ∷ [])) (joined_types c.args.home.now) refl ds c.args.decls.now c.args.types.now h

pub loop-decl-preserved : goal.loop-decl-preserved
loop-decl-preserved c = λ ds h. more_described (λ (d : TypeDescription). d.entity) (λ (d : TypeDescription). d.meaning) meaning_of (declared_types c.args.home.now) (λ (d : Declaration). declared_types c.args.home.now (d ∷ [])) (joined_types c.args.home.now) refl ds c.args.decls.now c.loop-decl.decl-index c.decl-item.result c.note_type.new.types c.loop-decl-test.true c.decl-item.is
    (c.in_ok-note_type.ensures _ (c.loop-decl.invariant ds h))

pub returns : goal.returns
returns c = λ ds h. all_described (λ (d : TypeDescription). d.entity) (λ (d : TypeDescription). d.meaning) meaning_of (declared_types c.args.home.now) (λ (d : Declaration). declared_types c.args.home.now (d ∷ [])) (joined_types c.args.home.now) refl ds c.args.decls.now c.loop-decl.decl-index c.loop-decl.types c.loop-decl-test.false (c.loop-decl.invariant ds h)
