use Rattle.std.proofs.Common.{◌∷◌, [], ◌∙◌, ap, refl, map}
use Rattle.hm_syntax.specs.Trees.{DataConstructor}
use Rattle.hm_scope_interface_entries.specs.KnownExports.{ConstructorSource, declared, source_entity, source_of}
use Rattle.hm_scope_interface_entries.proofs.FirstTables.{noted, more_described, none_described, all_described, joined_map}
use Rattle.hm_scope_interface_entries.proofs.known_exports.note_constructors.Goals as goal

pub loop-constr-init : goal.loop-constr-init
loop-constr-init c = λ ds h. none_described (source_entity c.args.home.now) (λ (d : ConstructorSource). d) source_of (map (declared c.args.name.now c.args.params.now)) (λ (k : DataConstructor). declared c.args.name.now c.args.params.now k ∷ []) (joined_map (declared c.args.name.now c.args.params.now)) refl ds c.args.constrs.now c.args.constructors.now h

pub loop-constr-preserved : goal.loop-constr-preserved
loop-constr-preserved c = λ ds h. more_described (source_entity c.args.home.now) (λ (d : ConstructorSource). d) source_of (map (declared c.args.name.now c.args.params.now)) (λ (k : DataConstructor). declared c.args.name.now c.args.params.now k ∷ []) (joined_map (declared c.args.name.now c.args.params.now)) refl ds c.args.constrs.now c.loop-constr.constr-index c.constr-item.result c.note.new.table c.loop-constr-test.true c.constr-item.is
    (noted (source_entity c.args.home.now) (λ (d : ConstructorSource). d) source_of _ (declared c.args.name.now c.args.params.now c.constr-item.result) c.loop-constr.constructors c.note.new.table c.own_key.result _ (c.own_key.ensures ∙ ap (λ (k : DataConstructor). source_entity c.args.home.now (declared c.args.name.now c.args.params.now k)) c.constr.view_is) refl (c.loop-constr.invariant ds h) c.in_ok-note.ensures)

pub returns : goal.returns
returns c = λ ds h. all_described (source_entity c.args.home.now) (λ (d : ConstructorSource). d) source_of (map (declared c.args.name.now c.args.params.now)) (λ (k : DataConstructor). declared c.args.name.now c.args.params.now k ∷ []) (joined_map (declared c.args.name.now c.args.params.now)) refl ds c.args.constrs.now c.loop-constr.constr-index c.loop-constr.constructors c.loop-constr-test.false (c.loop-constr.invariant ds h)
