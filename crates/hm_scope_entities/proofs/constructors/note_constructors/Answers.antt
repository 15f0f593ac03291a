use Rattle.hm_names.specs.Described.{described}
use Rattle.hm_scope_entities.proofs.OwnerTables.{described_more, described_all, described_none}
use Rattle.hm_scope_entities.proofs.constructors.note_constructors.Goals as goal

pub loop-constr-init : goal.loop-constr-init
loop-constr-init c = λ ds table. described_none (described c.args.module.now c.args.name.now) ds c.args.constrs.now c.args.owners.now table

pub loop-constr-preserved : goal.loop-constr-preserved
loop-constr-preserved c = λ ds table. described_more (described c.args.module.now c.args.name.now) ds c.args.constrs.now c.loop-constr.constr-index c.constr-item.result c.note_constructor.new.owners c.loop-constr-test.true c.constr-item.is
    (c.in_ok-note_constructor.ensures _ (c.loop-constr.invariant ds table))

pub returns : goal.returns
returns c = λ ds table. described_all (described c.args.module.now c.args.name.now) ds c.args.constrs.now c.loop-constr.constr-index c.loop-constr.owners c.loop-constr-test.false (c.loop-constr.invariant ds table)
