use Rattle.std.proofs.Common.{ℕ, ◌<◌, ◌≤◌}
use Rattle.hm_service_fixes.specs.Steps.{IsKnownFrom}
use Rattle.hm_service_fixes.specs.Views.{judged_of}
use Rattle.hm_service_fixes.proofs.faults.is_known_between.Given as goal

abbrev pub invariant-modules : goal.invariant-modules
invariant-modules l = (k : ℕ) → l.from ≤ k → k < l.number → ¬ (IsKnownFrom (judged_of l.before) l.change l.later.name.now l.later.fault.now k)
