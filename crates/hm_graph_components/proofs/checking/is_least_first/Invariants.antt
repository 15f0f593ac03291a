use Rattle.hm_graph_components.proofs.ChecksSoFar.{IsFirstBelow}
use Rattle.hm_graph_components.proofs.checking.is_least_first.Given as goal

abbrev pub invariant-loop-number : goal.invariant-loop-number
invariant-loop-number l = IsFirstBelow l.leasts l.earliest l.places.items l.number
