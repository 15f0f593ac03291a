use Rattle.std.proofs.Common.{◌≡◌, ℕ, ◌<◌, get_or}
use Rattle.hm_service_places.proofs.places.index_of.Given as goal

abbrev pub invariant-part : goal.invariant-part
invariant-part l = (j : ℕ) → j < l.index → ¬ (get_or l.part j 0 ≡ l.source)
