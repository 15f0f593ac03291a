use Rattle.std.proofs.Common.{◌<◌, ◌≡◌, arith, get_or, length, false, true, refl, rules}
use Rattle.hm_graph_components.proofs.Searches.{MarksRow-skip, MarksRow-mark}
use Rattle.hm_graph_components.proofs.groups.mark_row.Goals as goal
use Rattle.hm_graph_components.proofs.groups.mark_row.Goals.{then-not-marks-y+in_ok-push, else-not-marks-y}

pub loop-y-preserved : goal.loop-y-preserved
loop-y-preserved c =
    let y = get_or c.args.row.now c.loop-y.y-index 0 in
    elim c.if-not-marks-y.branch [
      | then-not-marks-y+in_ok-push w ↦
          let within : y < length c.loop-y.marks = omega (arith, c.requires c.loop-y.y-index 0 c.loop-y-test.true) in
          let clear : get_or c.loop-y.marks y false ≡ false = search rules in
          rw (w.marks-is, w.waiting-is, w.in_ok-push.ensures.items)
          (MarksRow-mark c.args.row.now c.args.marks.now c.loop-y.marks c.args.waiting.now.items c.loop-y.waiting.items c.loop-y.y-index y c.loop-y-test.true refl within clear c.loop-y.invariant)
      | else-not-marks-y w ↦
          let marked : get_or c.loop-y.marks y false ≡ true = search rules in
          rw (w.marks-is, w.waiting-is)
          (MarksRow-skip c.args.row.now c.args.marks.now c.loop-y.marks c.args.waiting.now.items c.loop-y.waiting.items c.loop-y.y-index c.loop-y-test.true marked c.loop-y.invariant)
    ]
