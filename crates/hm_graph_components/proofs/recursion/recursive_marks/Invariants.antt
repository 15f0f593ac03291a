use Rattle.std.proofs.Common.{◌≡◌, ◌↔◌, ℕ, ◌<◌, length}
use Rattle.hm_graph_components.specs.Digraph.{Reaches, lists}
use Rattle.hm_graph_components.specs.Marks.{IsMarked}
use Rattle.hm_graph_components.proofs.recursion.recursive_marks.Given as goal

abbrev pub invariant-rows : goal.invariant-rows
invariant-rows l = (length l.marks.items ≡ l.number) × ((x : ℕ) → x < l.number → IsMarked l.marks.items x ↔ Reaches (lists l.rows) x x)
