use Rattle.std.proofs.Common.{◌≡◌, ℕ, ◌<◌, get_or}
use Rattle.hm_service_stand_ins.proofs.findings.is_among.Given as goal

abbrev pub invariant-numbers : goal.invariant-numbers
invariant-numbers l = (j : ℕ) → j < l.i → ¬ (get_or l.numbers j 0 ≡ l.number)
