use Rattle.std.proofs.Common.{◌≡◌, ◌<◌, ℕ, true}
use Rattle.hm_store.specs.Builds.{state_of}
use Rattle.hm_store.specs.Objects.{is_settled, status_at}
use Rattle.hm_build_reports.proofs.ending.is_all_settled.Given as goal

abbrev pub invariant-loop-number : goal.invariant-loop-number
invariant-loop-number l = (m : ℕ) → m < l.number → is_settled (status_at (state_of l.store).statuses m) ≡ true
