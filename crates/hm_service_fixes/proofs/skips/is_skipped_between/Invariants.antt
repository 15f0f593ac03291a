use Rattle.std.proofs.Common.{ℕ, ◌<◌, ◌≤◌}
use Rattle.hm_service_fixes.specs.Judged.{IsSkippedAs}
use Rattle.hm_service_fixes.specs.Views.{judged_of}
use Rattle.hm_service_fixes.proofs.skips.is_skipped_between.Given as goal

abbrev pub invariant-modules : goal.invariant-modules
invariant-modules l = (k : ℕ) → l.from ≤ k → k < l.number → ¬ (IsSkippedAs (judged_of l.judged) l.name k)
