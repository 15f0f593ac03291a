use Rattle.std.proofs.Common.{◌≡◌, vec_len}
use Rattle.hm_graph_components.proofs.checking.list_numbers.Given as goal

abbrev pub invariant-loop-number : goal.invariant-loop-number
invariant-loop-number l = (vec_len l.numbers ≡ l.nodes) × (vec_len l.places ≡ l.nodes)

abbrev pub invariant-loop-place : goal.invariant-loop-place
invariant-loop-place l = (vec_len l.numbers ≡ l.nodes) × (vec_len l.places ≡ l.nodes)
