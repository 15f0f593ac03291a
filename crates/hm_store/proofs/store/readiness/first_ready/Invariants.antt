use Rattle.std.proofs.Common.{◌≡◌, [], None}
use Rattle.hm_store.specs.Objects.{least_below, is_ready}
use Rattle.hm_store.proofs.store.readiness.first_ready.Given as goal

abbrev pub invariant-loop-number : goal.invariant-loop-number
invariant-loop-number l = least_below (is_ready (record { imports = l.plan; dependents = [] }) l.statuses) l.number ≡ None
