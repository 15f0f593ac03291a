use Rattle.std.proofs.Common.{◌≡◌, ◌<◌, refl, length, get_or, arith, rules, false}
use Rattle.hm_graph_components.specs.Checks.{number_of}
use Rattle.hm_graph_components.proofs.ChecksSoFar.{MarksWithin-skip, MarksWithin-mark}
use Rattle.hm_graph_components.proofs.checking.mark_within.Goals as goal
use Rattle.hm_graph_components.proofs.checking.mark_within.Goals.{then-numbers-y+then-not-marks-y+in_ok-push, else-numbers-y}

pub loop-y-preserved : goal.loop-y-preserved
loop-y-preserved c =
    let y = get_or c.args.row.now c.loop-y.y-index 0 in
    elim c.if-numbers-y.branch [
      | then-numbers-y+then-not-marks-y+in_ok-push w ↦
          let within : y < length c.loop-y.marks = omega (arith, c.requires.numbers c.loop-y.y-index 0 c.loop-y-test.true, c.requires.marks, c.loop-y.invariant.nodes) in
          let clear : get_or c.loop-y.marks y false ≡ false = search rules in
          let is : number_of c.args.numbers.now y ≡ c.args.number = search rules in
          rw (w.marks-is, w.waiting-is, w.in_ok-push.ensures.items)
          (MarksWithin-mark c.args.row.now c.args.number c.args.numbers.now c.args.marks.now c.loop-y.marks c.args.waiting.now.items c.loop-y.waiting.items c.loop-y.y-index y c.loop-y-test.true refl within clear is c.loop-y.invariant)
      | else-numbers-y w ↦
          rw (w.marks-is, w.waiting-is)
          (MarksWithin-skip c.args.row.now c.args.number c.args.numbers.now c.args.marks.now c.loop-y.marks c.args.waiting.now.items c.loop-y.waiting.items c.loop-y.y-index c.loop-y-test.true c.loop-y.invariant)
    ]
