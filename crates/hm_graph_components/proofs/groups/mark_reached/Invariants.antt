use Rattle.std.proofs.Common.{◌≡◌, ◌≤◌}
use Rattle.std.specs.Vec.{vec_capacity}
use Rattle.hm_graph_components.specs.Digraph.{lists}
use Rattle.hm_graph_components.specs.Marks.{work_left}
use Rattle.hm_graph_components.proofs.Searches.{IsSearch}
use Rattle.hm_graph_components.proofs.groups.mark_reached.Given as goal

abbrev pub invariant-loop-x : goal.invariant-loop-x
invariant-loop-x l = record {
  search_of : IsSearch (lists l.rows) l.from l.marks l.waiting.items;
  room : work_left l.marks l.waiting.items ≤ vec_capacity l.waiting;
  capacity : vec_capacity l.waiting ≡ vec_capacity l.initial.waiting;
}

abbrev pub decreases-loop-x : goal.decreases-loop-x
decreases-loop-x l = work_left l.marks l.waiting.items
