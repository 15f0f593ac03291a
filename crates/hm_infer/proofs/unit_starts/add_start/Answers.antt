use Rattle.std.proofs.Common.{sym, subst}
use Rattle.hm_graph_components.specs.Digraph.{lists}
use Rattle.hm_infer_dependencies.specs.GroupMembers.{AreMembersOf}
use Rattle.hm_infer.proofs.UnitStarts.{some_member, start_added}
use Rattle.hm_infer.proofs.unit_starts.add_start.Goals as goal

pub first_place-place-requires : goal.first_place-place-requires
first_place-place-requires c = some_member (lists c.args.rows.now) c.args.group.now c.deref.result.now c.requires.some (subst (AreMembersOf (lists c.args.rows.now) c.args.group.now) (sym c.deref.ensures.value) c.in_ok-members.ensures)

pub returns : goal.returns
returns c = start_added (lists c.args.rows.now) c.args.group.now c.args.starts.now.items c.push.new.self.items c.deref.result.now c.first_place-place.result c.args.is_fault c.if-not-is_fault.false c.in_ok-push.ensures.items (subst (AreMembersOf (lists c.args.rows.now) c.args.group.now) (sym c.deref.ensures.value) c.in_ok-members.ensures) c.first_place-place.ensures
