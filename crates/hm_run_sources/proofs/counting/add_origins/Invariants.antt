use Rattle.std.proofs.Common.{◌≡◌, ◌++◌, replicate}
use Rattle.hm_run_sources.proofs.counting.add_origins.Given as goal

abbrev pub invariant-loop : goal.invariant-loop
invariant-loop l = l.origins.items ≡ l.initial.origins.items ++ replicate l.counter l.source
