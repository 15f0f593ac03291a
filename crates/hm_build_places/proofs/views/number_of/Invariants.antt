use Rattle.std.proofs.Common.{◌≡◌, ℕ, ◌<◌}
use Rattle.hm_verdicts.specs.Reports.{name_of_module}
use Rattle.hm_build_places.specs.Views.{known_of}
use Rattle.hm_build_places.proofs.views.number_of.Given as goal

abbrev pub invariant-modules : goal.invariant-modules
invariant-modules l = (i : ℕ) → i < l.number → ¬ (name_of_module (known_of l.view).set i ≡ l.name)
