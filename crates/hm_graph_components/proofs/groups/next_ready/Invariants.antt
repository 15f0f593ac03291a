use Rattle.hm_graph_components.proofs.Limits.{HeldBelow}
use Rattle.hm_graph_components.proofs.groups.next_ready.Given as goal

abbrev pub invariant-loop-x : goal.invariant-loop-x
invariant-loop-x l = HeldBelow l.table l.placed l.limits l.x
