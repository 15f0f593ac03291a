use Rattle.std.proofs.Common.{ℕ, ◌+◌, ◌<◌, ◌≤◌, length}
use Rattle.hm_service_completions.specs.Completions.{IsBegun}
use Rattle.hm_service_references.specs.Views.{known_of}
use Rattle.hm_service_completions.proofs.modules.module_at.Given as goal

abbrev pub invariant-modules : goal.invariant-modules
invariant-modules l = (j : ℕ) → l.count ≤ j + l.back → j < l.count → ¬ (IsBegun (known_of l.view) l.spot.part.now l.spot.source l.spot.line j)
