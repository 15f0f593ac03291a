use Rattle.std.proofs.Common.{◌≡◌, ◌+◌, sum, take}
use Rattle.hm_run_sources.proofs.counting.source_of.Given as goal

abbrev pub invariant-loop-source : goal.invariant-loop-source
invariant-loop-source l = l.left + sum (take l.source l.counts) ≡ l.number
