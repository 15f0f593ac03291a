use Rattle.std.proofs.Common.{◌≡◌, length, vec_len}
use Rattle.hm_graph_components.proofs.components.lists_by_number.Given as goal

abbrev pub invariant-loop-x : goal.invariant-loop-x
invariant-loop-x l = vec_len l.places ≡ length l.numbers
