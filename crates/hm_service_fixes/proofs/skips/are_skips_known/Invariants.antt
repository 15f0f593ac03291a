use Rattle.std.proofs.Common.{ℕ, ◌<◌}
use Rattle.hm_service_fixes.specs.Steps.{IsSkipFineAt}
use Rattle.hm_service_fixes.specs.Views.{judged_of}
use Rattle.hm_service_fixes.proofs.skips.are_skips_known.Given as goal

abbrev pub invariant-modules : goal.invariant-modules
invariant-modules l = (k : ℕ) → k < l.number → IsSkipFineAt (judged_of l.before) (judged_of l.after) l.source k
