use Rattle.std.proofs.Common.{◌≡◌, vec_len}
use Rattle.hm_graph_components.proofs.components.numbers_of_components.Given as goal

abbrev pub invariant-loop-number : goal.invariant-loop-number
invariant-loop-number l = vec_len l.numbers ≡ l.nodes

abbrev pub invariant-loop-x : goal.invariant-loop-x
invariant-loop-x l = vec_len l.numbers ≡ l.nodes
