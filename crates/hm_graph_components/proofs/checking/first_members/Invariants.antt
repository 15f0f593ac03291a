use Rattle.hm_graph_components.specs.Digraph.{lists}
use Rattle.hm_graph_components.proofs.ChecksSoFar.{LeastsBelow}
use Rattle.hm_graph_components.proofs.checking.first_members.Given as goal

abbrev pub invariant-loop-number : goal.invariant-loop-number
invariant-loop-number l = LeastsBelow (lists l.groups) l.leasts.items l.number
