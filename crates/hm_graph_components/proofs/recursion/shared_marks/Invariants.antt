use Rattle.std.proofs.Common.{◌≡◌, ◌↔◌, ℕ, length}
use Rattle.hm_graph_components.specs.Digraph.{lists}
use Rattle.hm_graph_components.specs.Marks.{IsMarked}
use Rattle.hm_graph_components.proofs.Cycles.{SharesBelow}
use Rattle.hm_graph_components.proofs.recursion.shared_marks.Given as goal

abbrev pub invariant-loop-number : goal.invariant-loop-number
invariant-loop-number l = (length l.marks.items ≡ length l.rows) × ((x : ℕ) → IsMarked l.marks.items x ↔ SharesBelow (lists l.groups.items) l.number x)
