use Rattle.std.proofs.Common.{◌≡◌, false, true, get_or, length, rules, sym, ◌≤◌}
use Rattle.hm_service_sources.proofs.Marked.{marked_next, unmarked_end, unmarked_next}
use Rattle.hm_service_sources.proofs.left_out.unmarked.Goals as goal
use Rattle.hm_service_sources.proofs.left_out.unmarked.Goals.{then-not-marks-number+in_ok-push, else-not-marks-number}

pub marks-preserved : goal.marks-preserved
marks-preserved c =
    elim c.if-not-marks-number.branch [
      | then-not-marks-number+in_ok-push w ↦
          let clear : get_or c.args.marks.now c.marks.number false ≡ false = search rules in
          rw (w.numbers-is, w.in_ok-push.ensures.items) (unmarked_next c.args.marks.now c.marks.number c.marks.numbers.items clear c.marks.invariant)
      | else-not-marks-number w ↦
          let marked : get_or c.args.marks.now c.marks.number false ≡ true = search rules in
          rw w.numbers-is (marked_next c.args.marks.now c.marks.number c.marks.numbers.items marked c.marks.invariant)
    ]

pub returns-clause-members : goal.returns-clause-members
returns-clause-members c = unmarked_end c.args.marks.now c.marks.number c.marks.numbers.items c.marks-test.false (search rules) c.marks.invariant
