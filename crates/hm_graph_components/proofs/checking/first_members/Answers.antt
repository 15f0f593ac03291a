use Rattle.std.proofs.Common.{◌<◌, refl, length, get_or, rules}
use Rattle.hm_graph_components.specs.Digraph.{lists}
use Rattle.hm_graph_components.proofs.Rows.{row_at}
use Rattle.hm_graph_components.proofs.ChecksSoFar.{LeastsBelow-push}
use Rattle.hm_graph_components.proofs.checking.first_members.Goals as goal

pub loop-number-preserved : goal.loop-number-preserved
loop-number-preserved c =
    let row = row_at c.args.groups.now c.loop-number.number c.index-groups-number.result c.loop-number-test.true c.index-groups-number.is in
    let some : 0 < length c.as_slice-group.result.now = search rules in
    rw c.in_ok-push.ensures.items
    (LeastsBelow-push (lists c.args.groups.now) c.loop-number.leasts.items c.loop-number.number (get_or c.as_slice-group.result.now 0 0) c.loop-number.invariant
    (rw (row, ← c.as_slice-group.ensures.value) some) (rw (row, ← c.as_slice-group.ensures.value) refl))
