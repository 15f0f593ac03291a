use Rattle.hm_graph_components.specs.Digraph.{lists}
use Rattle.hm_graph_components.proofs.ChecksSoFar.{NearBelow}
use Rattle.hm_graph_components.proofs.checking.all_reached_within.Given as goal

abbrev pub invariant-loop-x : goal.invariant-loop-x
invariant-loop-x l = NearBelow (lists l.rows) l.numbers l.leasts l.x
