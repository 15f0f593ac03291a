use Rattle.hm_graph_components.proofs.NodeOrders.{joined_more}
use Rattle.hm_graph_components.proofs.recursion.joined.Goals as goal

pub groups-preserved : goal.groups-preserved
groups-preserved c = joined_more c.args.groups.now c.groups.group-index c.group-item.result c.groups.all.items c.deref.result.now c.extend_from_slice.new.self.items c.groups-test.true c.group-item.is c.deref.ensures.value c.in_ok-extend_from_slice.ensures.items c.groups.invariant
