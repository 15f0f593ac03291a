use Rattle.hm_infer_dependencies.proofs.MemberLists.{row_step, row_all}
use Rattle.hm_infer_dependencies.proofs.members.add_row.Goals as goal

pub loop-place-preserved : goal.loop-place-preserved
loop-place-preserved c = row_step c.args.node c.args.row.now c.loop-place.place-index c.args.members.now.items c.loop-place.members.items c.push.new.self.items c.loop-place-test.true c.loop-place.invariant c.in_ok-push.ensures.items

pub returns : goal.returns
returns c = row_all c.args.node c.args.row.now c.loop-place.place-index c.args.members.now.items c.loop-place.members.items c.loop-place-test.false c.loop-place.invariant
