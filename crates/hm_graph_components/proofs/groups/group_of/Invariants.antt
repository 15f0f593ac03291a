use Rattle.hm_graph_components.proofs.Rows.{IsGroupBelow}
use Rattle.hm_graph_components.proofs.groups.group_of.Given as goal

abbrev pub invariant-loop-y : goal.invariant-loop-y
invariant-loop-y l = IsGroupBelow l.table l.x l.group.items l.y
