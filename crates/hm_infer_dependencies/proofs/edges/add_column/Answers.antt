use Rattle.std.proofs.Common.{◌∙◌}
use Rattle.hm_infer_dependencies.proofs.EdgeLists.{column_step, column_all}
use Rattle.hm_infer_dependencies.proofs.edges.add_column.Goals as goal

pub loop-from-preserved : goal.loop-from-preserved
loop-from-preserved c = record {
  size = c.in_ok-add.ensures.added.nodes ∙ c.loop-from.invariant.size;
  edges = column_step c.args.graph.now c.loop-from.graph c.add.new.self c.args.to c.args.row.now c.loop-from.from-index c.loop-from-test.true c.loop-from.invariant.edges c.in_ok-add.ensures.added;
}

pub returns-clause-edges : goal.returns-clause-edges
returns-clause-edges c = column_all c.args.graph.now c.loop-from.graph c.args.to c.args.row.now c.loop-from.from-index c.loop-from-test.false c.loop-from.invariant.edges
