use Rattle.std.proofs.Common.{◌≡◌, ◌<◌, length, All}
use Rattle.hm_graph_components.specs.Marks.{work_left}
use Rattle.hm_graph_components.proofs.components.number_component.Given as goal

abbrev pub invariant-loop-x : goal.invariant-loop-x
invariant-loop-x l = (length l.marks ≡ length l.rows) × (length l.numbers ≡ length l.rows) × All (λ x. x < length l.rows) l.numbers × All (λ x. x < length l.rows) l.waiting.items

abbrev pub decreases-loop-x : goal.decreases-loop-x
decreases-loop-x l = work_left l.marks l.waiting.items
