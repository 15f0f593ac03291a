use Rattle.std.proofs.Common.{ℕ, ◌<◌, ◌↔◌, get_or}
use Rattle.hm_uses_references.specs.SetNames.{IsSame, SetName}
use Rattle.hm_uses_renames.proofs.comparing.are_of.Given as goal

abbrev pub invariant-names : goal.invariant-names
invariant-names l = (k : ℕ) (d : SetName) → k < l.i → IsSame l.one (get_or l.names k d) ↔ IsSame l.other (get_or l.later k d)
