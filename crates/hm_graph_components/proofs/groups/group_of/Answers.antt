use Rattle.std.proofs.Common.{◌≡◌, length, arith, rules}
use Rattle.hm_graph_components.specs.Marks.{IsMember}
use Rattle.hm_graph_components.proofs.Rows.{IsGroupBelow-push, IsGroupBelow-skip, IsGroupBelow-row}
use Rattle.hm_graph_components.proofs.groups.group_of.Goals as goal
use Rattle.hm_graph_components.proofs.groups.group_of.Goals.{then-is_together+in_ok-push, else-is_together}

pub loop-y-preserved : goal.loop-y-preserved
loop-y-preserved c =
    elim c.if-is_together.branch [
      | then-is_together+in_ok-push w ↦
          let member : IsMember c.args.table.now c.args.x c.loop-y.y = search rules in
          rw (w.group-is, w.in_ok-push.ensures.items)
          (IsGroupBelow-push c.args.table.now c.args.x c.loop-y.group.items c.loop-y.y c.loop-y.invariant member)
      | else-is_together w ↦
          let other : IsMember c.args.table.now c.args.x c.loop-y.y → ⊥ = search rules in
          rw w.group-is
          (IsGroupBelow-skip c.args.table.now c.args.x c.loop-y.group.items c.loop-y.y c.loop-y.invariant other)
    ]

pub returns : goal.returns
returns c =
    let last : c.loop-y.y ≡ length c.args.table.now = omega arith in
    IsGroupBelow-row c.args.table.now c.args.x c.loop-y.group.items c.loop-y.y last c.loop-y.invariant
