use Rattle.hm_graph_components.specs.Digraph.{lists}
use Rattle.hm_graph_components.proofs.ChecksSoFar.{DownBelow}
use Rattle.hm_graph_components.proofs.checking.no_edge_ahead.Given as goal

abbrev pub invariant-loop-x : goal.invariant-loop-x
invariant-loop-x l = DownBelow (lists l.rows) l.numbers l.x
