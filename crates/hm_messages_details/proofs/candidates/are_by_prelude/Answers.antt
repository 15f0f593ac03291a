use Rattle.hm_messages_details.specs.Candidates.{IsByPrelude}
use Rattle.hm_messages_details.proofs.Meant.{each_end, each_more}
use Rattle.hm_messages_details.proofs.candidates.are_by_prelude.Goals as goal

pub pairs-preserved : goal.pairs-preserved
pairs-preserved c = each_more (IsByPrelude c.args.space c.args.entity.now) c.args.pairs.now c.pairs.pair-index c.pair-item.result c.pairs-test.true c.pair-item.is c.pairs.invariant (c.is_by_prelude.ensures c.if-not-is_by_prelude.false)

pub returns : goal.returns
returns c = λ _. each_end (IsByPrelude c.args.space c.args.entity.now) c.args.pairs.now c.pairs.pair-index c.pairs-test.false c.pairs.invariant
