use Rattle.std.proofs.Common.{◌≡◌, false, true, get_or, length, rules, sym, ◌≤◌}
use Rattle.hm_graph_components.proofs.SpreadMarks.{marked_next, clear_next, all_marked}
use Rattle.hm_graph_components.proofs.spreading.marked_numbers.Goals as goal
use Rattle.hm_graph_components.proofs.spreading.marked_numbers.Goals.{then-marks-number+in_ok-push, else-marks-number}

pub marks-preserved : goal.marks-preserved
marks-preserved c =
    elim c.if-marks-number.branch [
      | then-marks-number+in_ok-push w ↦
          let marked : get_or c.args.marks.now c.marks.number false ≡ true = search rules in
          rw (w.numbers-is, w.in_ok-push.ensures.items) (marked_next c.args.marks.now c.marks.number c.marks.numbers.items marked c.marks.invariant)
      | else-marks-number w ↦
          let clear : get_or c.args.marks.now c.marks.number false ≡ false = search rules in
          rw w.numbers-is (clear_next c.args.marks.now c.marks.number c.marks.numbers.items clear c.marks.invariant)
    ]

pub returns : goal.returns
returns c = all_marked c.args.marks.now c.marks.number c.marks.numbers.items c.marks-test.false c.marks.invariant
