-- The limit on the trials of a run.
use Rattle.std.specs.Prelude.{◌≡◌}
use Rattle.hm_messages_trials.specs.declared.costs.Effort.{Effort}

-- nothing is left for trials: none of this fault or of a later one is made
abbrev pub IsUsedUp : Effort → Type 0
IsUsedUp e = e.left ≡ 0
