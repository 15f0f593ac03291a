use Rattle.std.proofs.Common.{◌≡◌, ◌<◌, length, All, vec_len}
use Rattle.hm_graph_components.proofs.components.component_numbers.Given as goal

abbrev pub invariant-loop-place : goal.invariant-loop-place
invariant-loop-place l = (vec_len l.marks ≡ length l.back) × (vec_len l.numbers ≡ length l.back) × All (λ x. x < length l.back) l.numbers.items
