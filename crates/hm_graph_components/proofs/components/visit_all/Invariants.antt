use Rattle.std.proofs.Common.{◌≡◌, ◌<◌, length, All}
use Rattle.hm_graph_components.proofs.components.visit_all.Given as goal

abbrev pub invariant-loop-start : goal.invariant-loop-start
invariant-loop-start l = (length l.seen ≡ length l.rows) × (length l.next ≡ length l.rows) × All (λ x. x < length l.rows) l.path.items × All (λ x. x < length l.rows) l.order.items

abbrev pub invariant-steps : goal.invariant-steps
invariant-steps l = (length l.seen ≡ length l.rows) × (length l.next ≡ length l.rows) × All (λ x. x < length l.rows) l.path.items × All (λ x. x < length l.rows) l.order.items
