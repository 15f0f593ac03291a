use Rattle.std.proofs.Common.{rules, ◌≡◌, false}
use Rattle.hm_store.specs.Agreement.{Agree}
use Rattle.hm_store.specs.Builds.{IsAllSettled, state_of}
use Rattle.hm_store_shared.specs.Gathered.{records_in}
use Rattle.hm_build_stages.proofs.finishing.finished.Goals as goal

pub invariant_of-result : goal.invariant_of-result
invariant_of-result c =
    let settled : IsAllSettled c.args.store = search rules in
    let running : (state_of c.args.store).stopped ≡ false = search rules in
    let agree : Agree c.args.store (records_in c.args.records) = search rules in
    record { settled = settled; running = running; agreeing = ∣ agree ∣₁ }
