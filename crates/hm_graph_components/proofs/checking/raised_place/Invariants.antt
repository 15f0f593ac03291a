use Rattle.hm_graph_components.proofs.ChecksSoFar.{HasRaisedPlace}
use Rattle.hm_graph_components.proofs.checking.raised_place.Given as goal

abbrev pub invariant-loop-y : goal.invariant-loop-y
invariant-loop-y l = HasRaisedPlace l.row l.number l.numbers l.earliest l.raised
