use Rattle.hm_graph_components.specs.Digraph.{lists}
use Rattle.hm_graph_components.specs.Marks.{work_left}
use Rattle.hm_graph_components.proofs.SpreadMarks.{IsSpreading}
use Rattle.hm_graph_components.proofs.spreading.spread.Given as goal

abbrev pub invariant-loop-x : goal.invariant-loop-x
invariant-loop-x l = IsSpreading (lists l.rows) l.initial.marks l.marks l.waiting.items

abbrev pub decreases-loop-x : goal.decreases-loop-x
decreases-loop-x l = work_left l.marks l.waiting.items
