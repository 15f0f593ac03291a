use Rattle.hm_types.specs.declared.entries.ValueEntry.{ValueEntry}
use Rattle.hm_names.specs.Cores.{HasScheme}
use Rattle.hm_names.specs.SchemeTables.{scheme_of}
use Rattle.hm_scope_interface_entries.proofs.EntriesMade.{entries_start, entries_more, entries_all}
use Rattle.hm_scope_interface_entries.proofs.entries.add_values.Goals as goal

pub loop-exported-init : goal.loop-exported-init
loop-exported-init c = λ k known up e. entries_start (λ (r : ValueEntry). r.name) (λ (r : ValueEntry). r.entity) (λ (r : ValueEntry). HasScheme k (scheme_of c.args.values.now.schemes.now) r.entity r.scheme) c.args.exports.now c.args.entries.now.items e

pub loop-exported-preserved : goal.loop-exported-preserved
loop-exported-preserved c = λ k known up e. entries_more (λ (r : ValueEntry). r.name) (λ (r : ValueEntry). r.entity) (λ (r : ValueEntry). HasScheme k (scheme_of c.args.values.now.schemes.now) r.entity r.scheme) c.args.exports.now c.loop-exported.exported-index c.exported-item.result c.loop-exported.entries.items c.add_value.new.entries.items c.loop-exported-test.true c.exported-item.is up (λ o are. c.in_ok-add_value.ensures k _ known o are) (c.loop-exported.invariant k known up e)

pub returns : goal.returns
returns c = λ k known up e. entries_all (λ (r : ValueEntry). r.name) (λ (r : ValueEntry). r.entity) (λ (r : ValueEntry). HasScheme k (scheme_of c.args.values.now.schemes.now) r.entity r.scheme) c.args.exports.now c.loop-exported.exported-index c.loop-exported.entries.items c.loop-exported-test.false (c.loop-exported.invariant k known up e)
