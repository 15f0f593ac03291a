use Rattle.std.proofs.Common.{take}
use Rattle.hm_graph_components.specs.Digraph.{lists}
use Rattle.hm_graph_components.specs.Reversed.{ReversesRow}
use Rattle.hm_graph_components.proofs.reversal.reverse_row.Given as goal

abbrev pub invariant-loop-y : goal.invariant-loop-y
invariant-loop-y l = ReversesRow (lists l.initial.back.items) (lists l.back.items) (take l.y-index l.row) l.from
