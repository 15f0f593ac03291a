use Rattle.hm_graph_components.specs.Digraph.{lists}
use Rattle.hm_graph_components.specs.Reversed.{IsReversed}
use Rattle.hm_graph_components.proofs.reversal.reversed_rows.Given as goal

abbrev pub invariant-loop-x : goal.invariant-loop-x
invariant-loop-x l = IsReversed (lists l.rows) l.x (lists l.back.items)
