use Rattle.std.proofs.Common.{ℕ, ◌<◌}
use Rattle.hm_service_fixes.specs.Steps.{IsFineAt}
use Rattle.hm_service_fixes.specs.Views.{judged_of}
use Rattle.hm_service_fixes.proofs.faults.are_all_fine.Given as goal

abbrev pub invariant-modules : goal.invariant-modules
invariant-modules l = (k : ℕ) → k < l.number → IsFineAt (judged_of l.before) (judged_of l.after) l.change k
