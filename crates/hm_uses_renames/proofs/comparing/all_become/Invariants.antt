use Rattle.std.proofs.Common.{ℕ, ◌<◌, get_or}
use Rattle.hm_uses_references.specs.SetNames.{SetName}
use Rattle.hm_uses_renames.specs.Renames.{Becomes}
use Rattle.hm_uses_renames.proofs.comparing.all_become.Given as goal

abbrev pub invariant-names : goal.invariant-names
invariant-names l = (k : ℕ) (d : SetName) → k < l.i → Becomes l.of l.name (get_or l.names k d) (get_or l.later k d)
