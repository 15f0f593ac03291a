use Rattle.std.proofs.Common.{rules, ◌≡◌, ◌≢◌, [], ap}
use Rattle.std.specs.Prelude.{slice_index_or}
use Rattle.hm_build_reports.specs.Rounds.{Settled, deed, deeds}
use Rattle.hm_build_reports.proofs.RoundSteps.{closing, open_check, settles_elsewhere, settles_nothing}
use Rattle.hm_build_reports.proofs.rounds.after_check.Goals.{in_default-via-in-Publish+else-settled-number, in_default-via-in-Fail+else-settled-number-2, in_default-via-in_default}
use Rattle.hm_build_reports.proofs.rounds.after_check.Goals as goal

pub returns-in-Publish-clause-checked : goal.returns-in-Publish-clause-checked
unfolding deed
returns-in-Publish-clause-checked c =
    let settled : deed c.in_ok-call.call.now.act ≡ Settled c.args.number = search rules in
    closing _ c.args.number c.args.calls.now c.in_ok-after_looks.field-0.now c.in_ok-call.behind.now c.in_ok-call.call.now (search rules) c.in_ok-call.ensures.cases.0 settled

pub returns-in-Fail-clause-checked : goal.returns-in-Fail-clause-checked
unfolding deed
returns-in-Fail-clause-checked c =
    let settled : deed c.in_ok-call.call.now.act ≡ Settled c.args.number = search rules in
    closing _ c.args.number c.args.calls.now c.in_ok-after_looks.field-0.now c.in_ok-call.behind.now c.in_ok-call.call.now (search rules) c.in_ok-call.ensures.cases.0 settled

pub returns-in_default-clause-none : goal.returns-in_default-clause-none
unfolding deed
returns-in_default-clause-none c =
    let call = c.in_ok-call.call.now in
    let m = c.args.number in
    let apart : deed call.act ≢ Settled m = elim c.in_default.branch [
      | in_default-via-in-Publish+else-settled-number w ↦ settles_elsewhere call.act w.in-Publish.settled m (ap deed w.in-Publish.is) w.if-settled-number.false
      | in_default-via-in-Fail+else-settled-number-2 w ↦ settles_elsewhere call.act w.in-Fail.settled m (ap deed w.in-Fail.is) w.if-settled-number-2.false
      | in_default-via-in_default w ↦ settles_nothing call.act m w.in_default.not-Publish w.in_default.not-Fail
    ] in
    λ behind. open_check (slice_index_or c.args.plan.now m []) m (deeds c.args.calls.now) behind c.in_ok-after_looks.field-0.now c.in_ok-call.behind.now call (search rules) c.in_ok-call.ensures.cases.0 apart
