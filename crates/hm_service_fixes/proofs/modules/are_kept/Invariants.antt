use Rattle.std.proofs.Common.{ℕ, ◌<◌}
use Rattle.hm_service_fixes.specs.Steps.{IsKeptAt}
use Rattle.hm_service_fixes.specs.Views.{judged_of}
use Rattle.hm_service_fixes.proofs.modules.are_kept.Given as goal

abbrev pub invariant-modules : goal.invariant-modules
invariant-modules l = (k : ℕ) → k < l.number → IsKeptAt (judged_of l.before) (judged_of l.after) k
