use Rattle.hm_types.specs.declared.entries.TypeEntry.{TypeEntry}
use Rattle.hm_types.specs.declared.entries.SynonymEntry.{SynonymEntry}
use Rattle.hm_names.specs.Cores.{HasArity, HasSynonym}
use Rattle.hm_scope_interface_entries.proofs.EntriesMade.{entries_start, entries_more, entries_all}
use Rattle.hm_scope_interface_entries.proofs.entries.add_types.Goals as goal

pub loop-exported-init : goal.loop-exported-init
loop-exported-init c = λ k known up. (λ e. entries_start (λ (r : TypeEntry). r.name) (λ (r : TypeEntry). r.entity) (λ (r : TypeEntry). HasArity k r.entity r.arity) c.args.exports.now c.args.types.now.items e, λ e. entries_start (λ (r : SynonymEntry). r.name) (λ (r : SynonymEntry). r.entity) (λ (r : SynonymEntry). HasSynonym k r.entity r.synonym) c.args.exports.now c.args.synonyms.now.items e)

pub add_type-requires : goal.add_type-requires
add_type-requires c = c.requires

pub loop-exported-preserved : goal.loop-exported-preserved
loop-exported-preserved c = λ k known up. (
  λ e. entries_more (λ (r : TypeEntry). r.name) (λ (r : TypeEntry). r.entity) (λ (r : TypeEntry). HasArity k r.entity r.arity) c.args.exports.now c.loop-exported.exported-index c.exported-item.result c.loop-exported.types.items c.add_type.new.types.items c.loop-exported-test.true c.exported-item.is up (λ o are. c.in_ok-add_type.ensures.types k _ known o are) ((c.loop-exported.invariant k known up).0 e),
  λ e. entries_more (λ (r : SynonymEntry). r.name) (λ (r : SynonymEntry). r.entity) (λ (r : SynonymEntry). HasSynonym k r.entity r.synonym) c.args.exports.now c.loop-exported.exported-index c.exported-item.result c.loop-exported.synonyms.items c.add_type.new.synonyms.items c.loop-exported-test.true c.exported-item.is up (λ o are. c.in_ok-add_type.ensures.synonyms k _ known o are) ((c.loop-exported.invariant k known up).1 e),
)

pub returns-clause-types : goal.returns-clause-types
returns-clause-types c = λ k known up e. entries_all (λ (r : TypeEntry). r.name) (λ (r : TypeEntry). r.entity) (λ (r : TypeEntry). HasArity k r.entity r.arity) c.args.exports.now c.loop-exported.exported-index c.loop-exported.types.items c.loop-exported-test.false ((c.loop-exported.invariant k known up).0 e)

pub returns-clause-synonyms : goal.returns-clause-synonyms
returns-clause-synonyms c = λ k known up e. entries_all (λ (r : SynonymEntry). r.name) (λ (r : SynonymEntry). r.entity) (λ (r : SynonymEntry). HasSynonym k r.entity r.synonym) c.args.exports.now c.loop-exported.exported-index c.loop-exported.synonyms.items c.loop-exported-test.false ((c.loop-exported.invariant k known up).1 e)
