use Rattle.hm_build.proofs.workers.fn.run_workers.scope.Given as goal

abbrev pub invariant-loop-pass : goal.invariant-loop-pass
invariant-loop-pass g l = Unit {0}
