use Rattle.std.proofs.Common.{◌≡◌, ◌∙◌, ◌∷◌, ap}
use Rattle.hm_build_reports.specs.Rounds.{Claimed, Left, IsWorked, deed, deeds}
use Rattle.hm_build_reports.proofs.RoundSteps.{broken_round, done_last, first, has_calls, next_round, no_claim, none_left, not_in_rounds, onward}
use Rattle.hm_build_reports.proofs.rounds.is_in_rounds.Goals as goal

pub returns-in-Done : goal.returns-in-Done
unfolding deed
returns-in-Done c =
    let calls = c.args.log.now.calls.items in
    let done : deed c.in-Some.call.now.act ≡ Left = ap deed c.in-Done.is in
    done_last c.args.plan.now c.args.log.now c.rounds.left.now c.in-Some.behind.now c.in-Some.call.now c.is_empty-in-Done.result (has_calls calls c.as_slice-left.result.now c.is_empty.result c.as_slice-left.ensures.value c.is_empty.ensures c.if-is_empty.false) c.rounds.invariant.onward c.rounds.invariant.back c.in-Some.ensures.cases.0 done c.is_empty-in-Done.ensures

pub returns-in-None : goal.returns-in-None
unfolding deed
returns-in-None c =
    let calls = c.args.log.now.calls.items in
    let job : deed c.in-Some.call.now.act ≡ Claimed c.in-Job.number = ap deed c.in-Job.is in
    not_in_rounds c.args.plan.now c.args.log.now (has_calls calls c.as_slice-left.result.now c.is_empty.result c.as_slice-left.ensures.value c.is_empty.ensures c.if-is_empty.false)
    (λ worked. broken_round c.args.plan.now c.in-Job.number c.rounds.left.now c.in-Some.behind.now c.in-Some.call.now c.in-Some.ensures.cases.0 job c.in-None.ensures.none (c.rounds.invariant.back worked))

pub returns-in_default-act : goal.returns-in_default-act
returns-in_default-act c =
    let calls = c.args.log.now.calls.items in
    not_in_rounds c.args.plan.now c.args.log.now (has_calls calls c.as_slice-left.result.now c.is_empty.result c.as_slice-left.ensures.value c.is_empty.ensures c.if-is_empty.false)
    (λ worked. no_claim c.args.plan.now c.rounds.left.now c.in-Some.behind.now c.in-Some.call.now c.in-Some.ensures.cases.0 c.in_default-act.not-Job c.in_default-act.not-Done (c.rounds.invariant.back worked))

pub rounds-preserved : goal.rounds-preserved
unfolding deed
rounds-preserved c =
    let job : deed c.in-Some.call.now.act ≡ Claimed c.in-Job.number = ap deed c.in-Job.is in
    record {
      onward = onward c.args.plan.now c.in-Job.number (deeds c.rounds.left.now) (deeds c.in-Some-after_check.rest.now) (IsWorked c.args.plan.now c.args.log.now.calls.items) c.rounds.invariant.onward
          (first c.rounds.left.now c.in-Some.behind.now c.in-Some.call.now (Claimed c.in-Job.number) c.in-Some.ensures.cases.0 job ∙ ap (λ ds. Claimed c.in-Job.number ∷ ds) c.in-Some-after_check.ensures.checked);
      back = λ worked. next_round c.args.plan.now c.in-Job.number c.rounds.left.now c.in-Some.behind.now c.in-Some-after_check.rest.now c.in-Some.call.now c.in-Some.ensures.cases.0 job c.in-Some-after_check.ensures.checked (c.rounds.invariant.back worked);
    }

pub returns : goal.returns
returns c =
    let calls = c.args.log.now.calls.items in
    not_in_rounds c.args.plan.now c.args.log.now (has_calls calls c.as_slice-left.result.now c.is_empty.result c.as_slice-left.ensures.value c.is_empty.ensures c.if-is_empty.false)
    (λ worked. none_left c.args.plan.now c.rounds.left.now c.in_default.ensures.cases (c.rounds.invariant.back worked))
