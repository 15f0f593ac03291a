use Rattle.hm_graph_components.specs.Digraph.{lists}
use Rattle.hm_graph_components.proofs.ChecksSoFar.{MembersBelow}
use Rattle.hm_graph_components.proofs.checking.are_members.Given as goal

abbrev pub invariant-loop-number : goal.invariant-loop-number
invariant-loop-number l = MembersBelow (lists l.groups) l.numbers l.number
