use Rattle.std.specs.Prelude.{All}
use Rattle.hm_run_io.specs.Watching.{IsFresh}
use Rattle.hmc.proofs.serve_sources.Given as goal

abbrev pub invariant-loop-name : goal.invariant-loop-name
invariant-loop-name g l = All IsFresh l.readers.items
