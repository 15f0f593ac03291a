use Rattle.std.proofs.Common.{refl, arith}
use Rattle.hm_infer.proofs.Cleared.{cleared_none, cleared_step, cleared_all}
use Rattle.hm_infer.proofs.judging_units.clear.Goals as goal

pub nodes-init : goal.nodes-init
nodes-init c = cleared_none c.args.group.now c.args.types.now c.requires.others

pub nodes-preserved : goal.nodes-preserved
nodes-preserved c = cleared_step c.args.group.now c.nodes.types _ c.nodes.place c.nodes-test.true (let h = c.requires.nodes c.nodes.place 0 c.nodes-test.true in omega (arith, h, c.nodes.auto.types)) refl c.nodes.invariant

pub returns : goal.returns
returns c = cleared_all c.args.group.now c.nodes.types c.nodes.place c.nodes-test.false c.nodes.invariant
