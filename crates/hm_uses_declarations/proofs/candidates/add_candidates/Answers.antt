use Rattle.hm_names.proofs.AddedPairs.{for_none, for_more, for_all}
use Rattle.hm_uses_declarations.specs.Candidates.{IsCandidate}
use Rattle.hm_uses_declarations.proofs.candidates.add_candidates.Goals as goal

pub pairs-init : goal.pairs-init
pairs-init c = for_none (IsCandidate c.args.space c.args.name.now) c.args.found.now.items c.args.pairs.now

pub pairs-preserved : goal.pairs-preserved
pairs-preserved c =
    for_more (IsCandidate c.args.space c.args.name.now) c.args.found.now.items c.pairs.found.items c.add_candidate.new.found.items c.args.pairs.now c.pairs.pair-index c.pair-item.result c.pairs-test.true c.pair-item.is c.pairs.invariant c.in_ok-add_candidate.ensures

pub returns : goal.returns
returns c = for_all (IsCandidate c.args.space c.args.name.now) c.args.found.now.items c.pairs.found.items c.args.pairs.now c.pairs.pair-index c.pairs-test.false c.pairs.invariant
