use denote.Param.Send.{sendable}
use Rattle.std.proofs.Common.{◌<◌, ◌≤◌, arith, inl, inr, rules}
use Rattle.std.proofs.Crossing.{crosses}
use Rattle.hm_service.proofs.Crossing.{checks_sync}
use Rattle.hm_service.proofs.checking.check.Goals as goal

pub returns-in_err-checked-clause-workers : goal.returns-in_err-checked-clause-workers
returns-in_err-checked-clause-workers g c = λ bad.
    let low : 0 < c.args.workers = search rules in
    let high : c.args.workers ≤ 16 = search rules in
    elim bad [ inl none ↦ absurd (omega (arith, low, none)) | inr more ↦ absurd (omega (arith, high, more)) ]

pub check_on_thread-requires-sync-E : goal.check_on_thread-requires-sync-E
check_on_thread-requires-sync-E g c κs within = search (checks_sync, crosses, sendable) depth 30 fits 5000
