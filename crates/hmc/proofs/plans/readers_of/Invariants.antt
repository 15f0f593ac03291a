use Rattle.std.proofs.Common.{All}
use Rattle.hm_run_io.specs.Watching.{IsFresh}
use Rattle.hmc.proofs.plans.readers_of.Given as goal

abbrev pub invariant-loop-text : goal.invariant-loop-text
invariant-loop-text l = All IsFresh l.readers.items
