use Rattle.hm_types.specs.declared.entries.ConstructorEntry.{ConstructorEntry}
use Rattle.hm_names.specs.Cores.{IsDescribed}
use Rattle.hm_scope_interface_entries.proofs.EntriesMade.{entries_start, entries_more, entries_all}
use Rattle.hm_scope_interface_entries.proofs.entries.add_constructors.Goals as goal

pub loop-exported-init : goal.loop-exported-init
loop-exported-init c = λ k home known up e. entries_start (λ (r : ConstructorEntry). r.name) (λ (r : ConstructorEntry). r.entity) (λ (r : ConstructorEntry). IsDescribed k r.entity r.owner r.arguments r.scheme) c.args.exports.now c.args.constructors.now.items e

pub add_constructor-requires : goal.add_constructor-requires
add_constructor-requires c = c.requires

pub loop-exported-preserved : goal.loop-exported-preserved
loop-exported-preserved c = λ k home known up e. entries_more (λ (r : ConstructorEntry). r.name) (λ (r : ConstructorEntry). r.entity) (λ (r : ConstructorEntry). IsDescribed k r.entity r.owner r.arguments r.scheme) c.args.exports.now c.loop-exported.exported-index c.exported-item.result c.loop-exported.constructors.items c.add_constructor.new.constructors.items c.loop-exported-test.true c.exported-item.is up (λ o are. c.in_ok-add_constructor.ensures k _ home known o are) (c.loop-exported.invariant k home known up e)

pub returns : goal.returns
returns c = λ k home known up e. entries_all (λ (r : ConstructorEntry). r.name) (λ (r : ConstructorEntry). r.entity) (λ (r : ConstructorEntry). IsDescribed k r.entity r.owner r.arguments r.scheme) c.args.exports.now c.loop-exported.exported-index c.loop-exported.constructors.items c.loop-exported-test.false (c.loop-exported.invariant k home known up e)
