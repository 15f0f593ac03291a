use Rattle.std.proofs.Common.{◌≡◌, ◌-◌, ◌^◌, min}
use Rattle.hm_build_messages.specs.Explanations.{fault_count}
use Rattle.hm_build_reports.specs.Settling.{statuses_of}
use Rattle.hm_build_messages.proofs.explaining.errors_in.Given as goal

abbrev pub invariant-loop-status : goal.invariant-loop-status
invariant-loop-status l = l.errors ≡ min (fault_count (statuses_of l.settled) l.status-index) (2 ^ 64 - 1)
