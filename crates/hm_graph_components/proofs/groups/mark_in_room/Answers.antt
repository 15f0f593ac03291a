use Rattle.std.proofs.Common.{◌<◌, ◌≡◌, ◌∙◌, arith, get_or, length, false, true, refl, rules}
use Rattle.hm_graph_components.proofs.Searches.{MarksRow-skip, MarksRow-mark}
use Rattle.hm_graph_components.proofs.groups.mark_in_room.Goals as goal
use Rattle.hm_graph_components.proofs.groups.mark_in_room.Goals.{then-not-marks-y, else-not-marks-y}

pub loop-y-preserved : goal.loop-y-preserved
loop-y-preserved c =
    let y = get_or c.args.row.now c.loop-y.y-index 0 in
    elim c.if-not-marks-y.branch [
      | then-not-marks-y w ↦
          let within : y < length c.loop-y.marks = omega (arith, c.requires.within c.loop-y.y-index 0 c.loop-y-test.true) in
          let clear : get_or c.loop-y.marks y false ≡ false = search rules in record {
            row = rw (w.marks-is, w.waiting-is, w.push_reserved.ensures.items)
                (MarksRow-mark c.args.row.now c.args.marks.now c.loop-y.marks c.args.waiting.now.items c.loop-y.waiting.items c.loop-y.y-index y c.loop-y-test.true refl within clear c.loop-y.invariant.row);
            capacity = rw w.waiting-is (w.push_reserved.ensures.capacity ∙ c.loop-y.invariant.capacity);
          }
      | else-not-marks-y w ↦
          let marked : get_or c.loop-y.marks y false ≡ true = search rules in record {
            row = rw (w.marks-is, w.waiting-is)
                (MarksRow-skip c.args.row.now c.args.marks.now c.loop-y.marks c.args.waiting.now.items c.loop-y.waiting.items c.loop-y.y-index c.loop-y-test.true marked c.loop-y.invariant.row);
            capacity = rw w.waiting-is c.loop-y.invariant.capacity;
          }
    ]
