use Rattle.std.proofs.Common.{true, refl, arith}
use Rattle.hm_infer_expressions.proofs.Referring.{mark_step}
use Rattle.hm_infer_results.proofs.dependences.mark.Goals as goal

pub nodes-preserved : goal.nodes-preserved
nodes-preserved c = mark_step c.args.group.now true c.nodes.node-index c.args.typed.now c.nodes.typed _ c.nodes-test.true (let h = c.requires c.nodes.node-index 0 c.nodes-test.true in omega (arith, h, c.nodes.auto.typed)) refl c.nodes.invariant
