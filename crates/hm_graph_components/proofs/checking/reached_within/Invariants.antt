use Rattle.std.proofs.Common.{◌≡◌, take}
use Rattle.hm_graph_components.specs.Digraph.{lists}
use Rattle.hm_graph_components.specs.Marks.{work_left}
use Rattle.hm_graph_components.proofs.ChecksSoFar.{IsReachedWithinSearch}
use Rattle.hm_graph_components.proofs.checking.reached_within.Given as goal

abbrev pub invariant-loop-least : goal.invariant-loop-least
invariant-loop-least l = l.waiting.items ≡ take l.least-index l.leasts

abbrev pub invariant-loop-x : goal.invariant-loop-x
invariant-loop-x l = IsReachedWithinSearch (lists l.rows) l.numbers l.leasts l.marks.items l.waiting.items

abbrev pub decreases-loop-x : goal.decreases-loop-x
decreases-loop-x l = work_left l.marks.items l.waiting.items
