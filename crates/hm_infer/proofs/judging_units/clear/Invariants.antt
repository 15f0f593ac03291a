use Rattle.hm_infer.proofs.Cleared.{AreClearedBefore}
use Rattle.hm_infer.proofs.judging_units.clear.Given as goal

abbrev pub invariant-nodes : goal.invariant-nodes
invariant-nodes l = AreClearedBefore l.place l.group l.types
