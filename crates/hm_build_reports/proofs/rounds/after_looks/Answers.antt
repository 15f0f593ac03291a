use Rattle.std.proofs.Common.{rules, ◌≡◌, ◌≢◌, ◌≤◌, length, get_or}
use Rattle.hm_build_reports.specs.Rounds.{Found, deed, deeds}
use Rattle.hm_build_reports.proofs.RoundSteps.{found_by, looks_elsewhere, looks_in_vain, no_look_by, one_more, other_look}
use Rattle.hm_build_reports.proofs.rounds.after_looks.Goals as goal

pub modules-preserved : goal.modules-preserved
modules-preserved c =
    let call = c.in_ok-call.call.now in
    let found : deed call.act ≡ Found (get_or c.args.modules.now c.modules.number-index 0) = found_by call.act c.in-Look.found _ c.in-Look.interface c.is_none.result c.in-Look.is c.if-found-number.false c.is_none.ensures c.if-is_none.false in
    let shorter : length c.in_ok-call.behind.now ≤ length c.args.calls.now = search rules in
    (one_more c.args.modules.now c.modules.number-index c.args.calls.now c.modules.left.now c.in_ok-call.behind.now call c.modules.invariant.0 c.modules-test.true c.in_ok-call.ensures.cases.0 found, shorter)

pub returns-in_default : goal.returns-in_default
returns-in_default c =
    let call = c.in_ok-call.call.now in
    let apart : deed call.act ≢ Found (get_or c.args.modules.now c.modules.number-index 0) = no_look_by call.act _ c.in_default.not-Look in
    record {
      none = λ behind. other_look c.args.modules.now c.modules.number-index (deeds c.args.calls.now) behind c.modules.left.now c.in_ok-call.behind.now call c.modules-test.true c.modules.invariant.0 c.in_ok-call.ensures.cases.0 apart;
      looks = tt;
      shorter = tt;
    }

pub returns-then-found-number-clause-none : goal.returns-then-found-number-clause-none
returns-then-found-number-clause-none c =
    let call = c.in_ok-call.call.now in
    let apart : deed call.act ≢ Found (get_or c.args.modules.now c.modules.number-index 0) = looks_elsewhere call.act c.in-Look.found _ c.in-Look.interface c.in-Look.is c.if-found-number.true in
    λ behind. other_look c.args.modules.now c.modules.number-index (deeds c.args.calls.now) behind c.modules.left.now c.in_ok-call.behind.now call c.modules-test.true c.modules.invariant.0 c.in_ok-call.ensures.cases.0 apart

pub returns-then-is_none-clause-none : goal.returns-then-is_none-clause-none
returns-then-is_none-clause-none c =
    let call = c.in_ok-call.call.now in
    let apart : deed call.act ≢ Found (get_or c.args.modules.now c.modules.number-index 0) = looks_in_vain call.act c.in-Look.found _ c.in-Look.interface c.is_none.result c.in-Look.is c.is_none.ensures c.if-is_none.true in
    λ behind. other_look c.args.modules.now c.modules.number-index (deeds c.args.calls.now) behind c.modules.left.now c.in_ok-call.behind.now call c.modules-test.true c.modules.invariant.0 c.in_ok-call.ensures.cases.0 apart
