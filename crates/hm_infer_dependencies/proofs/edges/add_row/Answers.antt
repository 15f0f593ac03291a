use Rattle.std.proofs.Common.{◌∙◌}
use Rattle.hm_infer_dependencies.proofs.EdgeLists.{row_step, row_all}
use Rattle.hm_infer_dependencies.proofs.edges.add_row.Goals as goal

pub loop-to-preserved : goal.loop-to-preserved
loop-to-preserved c = record {
  size = c.in_ok-add.ensures.added.nodes ∙ c.loop-to.invariant.size;
  edges = row_step c.args.graph.now c.loop-to.graph c.add.new.self c.args.from c.args.row.now c.loop-to.to-index c.loop-to-test.true c.loop-to.invariant.edges c.in_ok-add.ensures.added;
}

pub returns-clause-edges : goal.returns-clause-edges
returns-clause-edges c = row_all c.args.graph.now c.loop-to.graph c.args.from c.args.row.now c.loop-to.to-index c.loop-to-test.false c.loop-to.invariant.edges
