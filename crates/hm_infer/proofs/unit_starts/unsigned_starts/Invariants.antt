use Rattle.hm_graph_components.specs.Digraph.{lists}
use Rattle.hm_infer.specs.UnitStarts.{AreGroupStarts}
use Rattle.hm_infer.proofs.unit_starts.unsigned_starts.Given as goal

abbrev pub invariant-groups : goal.invariant-groups
invariant-groups l = AreGroupStarts (lists l.found.rows.items) (lists l.found.groups.items) l.faulty l.i l.starts.items
