use Rattle.hm_graph_components.specs.Digraph.{lists}
use Rattle.hm_graph_components.proofs.ChecksSoFar.{CoveredBelow}
use Rattle.hm_graph_components.proofs.checking.is_covered.Given as goal

abbrev pub invariant-loop-x : goal.invariant-loop-x
invariant-loop-x l = CoveredBelow (lists l.groups) l.numbers l.x
