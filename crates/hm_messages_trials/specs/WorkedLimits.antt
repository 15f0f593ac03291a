-- Worked examples of the limit on trials.
use Rattle.std.specs.Prelude.{◌≡◌}
use Rattle.hm_messages_trials.specs.Limits.{IsUsedUp}
use Rattle.hm_messages_trials.specs.declared.costs.Effort.{Effort}

-- an effort with nothing left for the run is used up, whatever trials the current fault has left. One that has something left isn't
pub record LimitsRow : Type 0 where
  pub nothing : (e : Effort) → e.left ≡ 0 → IsUsedUp e
  pub some : (e : Effort) → e.left ≡ 1 → e.trials ≡ 0 → ¬ (IsUsedUp e)
