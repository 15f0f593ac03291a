use Rattle.std.proofs.Common.{◌≡◌, ◌++◌}
use Rattle.hm_run_sources.proofs.sets.add_modules.Given as goal

abbrev pub invariant-loop-module : goal.invariant-loop-module
invariant-loop-module l = l.modules.items ≡ l.initial.modules.items ++ l.yielded
