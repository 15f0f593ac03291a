use Rattle.hm_messages_details.specs.Candidates.{MeansOnly}
use Rattle.hm_messages_details.proofs.Meant.{each_end, each_more}
use Rattle.hm_messages_details.proofs.candidates.means_alone.Goals as goal

pub pairs-preserved : goal.pairs-preserved
pairs-preserved c = each_more (MeansOnly c.args.space c.args.qualifier.now c.args.entity.now) c.args.pairs.now c.pairs.pair-index c.pair-item.result c.pairs-test.true c.pair-item.is c.pairs.invariant (c.means_other.ensures c.if-means_other.false)

pub returns : goal.returns
returns c = λ _. each_end (MeansOnly c.args.space c.args.qualifier.now c.args.entity.now) c.args.pairs.now c.pairs.pair-index c.pairs-test.false c.pairs.invariant
