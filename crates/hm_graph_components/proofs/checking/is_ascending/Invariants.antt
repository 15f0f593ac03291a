use Rattle.hm_graph_components.proofs.ChecksSoFar.{RisesBelow}
use Rattle.hm_graph_components.proofs.checking.is_ascending.Given as goal

abbrev pub invariant-loop-k : goal.invariant-loop-k
invariant-loop-k l = RisesBelow l.group l.k
