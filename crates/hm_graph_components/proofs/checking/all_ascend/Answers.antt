use Rattle.std.proofs.Common.{[], get_or, rules}
use Rattle.std.specs.List.Sorted.{IsStrictlyIncreasing}
use Rattle.hm_graph_components.specs.Digraph.{lists}
use Rattle.hm_graph_components.proofs.Rows.{row_at}
use Rattle.hm_graph_components.proofs.ChecksSoFar.{Below-more}
use Rattle.hm_graph_components.proofs.checking.all_ascend.Goals as goal

pub loop-number-preserved : goal.loop-number-preserved
loop-number-preserved c =
    let up : IsStrictlyIncreasing c.deref.result.now = search rules in
    Below-more (λ i. IsStrictlyIncreasing (get_or (lists c.args.groups.now) i [])) c.loop-number.number c.loop-number.invariant
    (rw (row_at c.args.groups.now c.loop-number.number c.index-groups-number.result c.loop-number-test.true c.index-groups-number.is, ← c.deref.ensures.value) up)
