use Rattle.std.proofs.Common.{ℕ, ◌<◌, get_or}
use Rattle.hm_uses_references.specs.SetNames.{SetName}
use Rattle.hm_uses_renames.specs.Firsts.{IsPaired, number_at}
use Rattle.hm_uses_renames.proofs.firsts.are_paired.Given as goal

abbrev pub invariant-names : goal.invariant-names
invariant-names l = (k : ℕ) (d : SetName) → k < l.i → IsPaired (number_at l.firsts) l.others (get_or l.names k d) (get_or l.others k d)
