use Rattle.std.proofs.Common.{ℕ, ◌<◌, ◌≤◌}
use Rattle.hm_service_fixes.specs.Steps.{IsAcceptedAs}
use Rattle.hm_service_fixes.specs.Views.{judged_of}
use Rattle.hm_service_fixes.proofs.modules.is_accepted_between.Given as goal

abbrev pub invariant-modules : goal.invariant-modules
invariant-modules l = (k : ℕ) → l.from ≤ k → k < l.number → ¬ (IsAcceptedAs (judged_of l.judged) l.name k)
