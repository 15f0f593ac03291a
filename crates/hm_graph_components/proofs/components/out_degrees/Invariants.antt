use Rattle.std.proofs.Common.{◌≡◌, length, vec_len}
use Rattle.hm_graph_components.proofs.components.out_degrees.Given as goal

abbrev pub invariant-loop-x : goal.invariant-loop-x
invariant-loop-x l = vec_len l.degrees ≡ length l.rows
