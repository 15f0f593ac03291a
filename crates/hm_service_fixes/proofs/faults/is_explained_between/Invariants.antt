use Rattle.std.proofs.Common.{ℕ, ◌<◌, ◌≤◌}
use Rattle.hm_service_fixes.specs.Steps.{IsExplainedAt}
use Rattle.hm_service_fixes.proofs.faults.is_explained_between.Given as goal

abbrev pub invariant-faults : goal.invariant-faults
invariant-faults l = (k : ℕ) → l.from ≤ k → k < l.index → ¬ (IsExplainedAt l.replaced l.later l.found k)
