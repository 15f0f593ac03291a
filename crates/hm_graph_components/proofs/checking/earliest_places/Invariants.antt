use Rattle.hm_graph_components.specs.Digraph.{lists}
use Rattle.hm_graph_components.proofs.ChecksSoFar.{HeightsBelow}
use Rattle.hm_graph_components.proofs.checking.earliest_places.Given as goal

abbrev pub invariant-loop-x : goal.invariant-loop-x
invariant-loop-x l = HeightsBelow (lists l.rows) l.numbers l.earliest.items l.count
