use Rattle.std.proofs.Common.{◌≡◌, replicate, None}
use Rattle.hm_store.proofs.store.no_outcomes.Given as goal

abbrev pub invariant-loop : goal.invariant-loop
invariant-loop l = l.outcomes.items ≡ replicate l.counter None
