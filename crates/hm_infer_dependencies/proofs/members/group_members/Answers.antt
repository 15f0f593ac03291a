use Rattle.hm_graph_components.specs.Digraph.{lists}
use Rattle.hm_infer_dependencies.proofs.MemberLists.{members_step, members_all}
use Rattle.hm_infer_dependencies.proofs.members.group_members.Goals as goal

pub loop-node-preserved : goal.loop-node-preserved
loop-node-preserved c = members_step c.args.rows.now c.args.group.now c.loop-node.node-index c.index-rows-node.result c.deref.result.now c.loop-node.members.items c.add_row.new.members.items c.loop-node-test.true (c.requires c.loop-node.node-index 0 c.loop-node-test.true) c.index-rows-node.is c.deref.ensures.value c.loop-node.invariant c.in_ok-add_row.ensures

pub returns : goal.returns
returns c = members_all (lists c.args.rows.now) c.args.group.now c.loop-node.node-index c.loop-node.members.items c.loop-node-test.false c.loop-node.invariant
