use Rattle.hm_graph_components.specs.Digraph.{lists}
use Rattle.hm_graph_components.proofs.Orderings.{IsOrdering, unplaced_count}
use Rattle.hm_graph_components.proofs.groups.ordered_groups.Given as goal

abbrev pub invariant-loop-x : goal.invariant-loop-x
invariant-loop-x l = IsOrdering l.table l.placed.items l.limits.items (lists l.groups.items)

abbrev pub decreases-loop-x : goal.decreases-loop-x
decreases-loop-x l = unplaced_count l.placed.items
