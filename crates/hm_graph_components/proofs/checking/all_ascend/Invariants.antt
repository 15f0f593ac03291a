use Rattle.hm_graph_components.specs.Digraph.{lists}
use Rattle.hm_graph_components.proofs.ChecksSoFar.{UpBelow}
use Rattle.hm_graph_components.proofs.checking.all_ascend.Given as goal

abbrev pub invariant-loop-number : goal.invariant-loop-number
invariant-loop-number l = UpBelow (lists l.groups) l.number
