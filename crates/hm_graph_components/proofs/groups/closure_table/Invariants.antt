use Rattle.hm_graph_components.specs.Digraph.{lists}
use Rattle.hm_graph_components.proofs.Rows.{IsRows}
use Rattle.hm_graph_components.proofs.groups.closure_table.Given as goal

abbrev pub invariant-loop-x : goal.invariant-loop-x
invariant-loop-x l = IsRows (lists l.rows) l.table.items l.x
