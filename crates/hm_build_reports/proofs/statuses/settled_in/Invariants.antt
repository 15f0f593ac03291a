use Rattle.std.proofs.Common.{◌≡◌, ◌<◌, length, ℕ}
use Rattle.hm_store.specs.Settlements.{settlement}
use Rattle.hm_build_reports.specs.Settling.{statuses_of}
use Rattle.hm_build_reports.proofs.statuses.settled_in.Given as goal

abbrev pub invariant-loop-number : goal.invariant-loop-number
invariant-loop-number l = (length l.settled.items ≡ l.number) × ((k : ℕ) → k < l.number → statuses_of l.settled.items k ≡ settlement l.store k)
