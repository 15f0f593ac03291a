use Rattle.hm_run_sources.proofs.ModuleCounts.{AreOriginsBefore}
use Rattle.hm_run_sources.proofs.counting.origins_of.Given as goal

abbrev pub invariant-loop-source : goal.invariant-loop-source
invariant-loop-source l = AreOriginsBefore l.counts l.source l.origins.items
