use Rattle.hm_build.specs.Laws.{SettledSetIsRun}
use Rattle.hm_build_output.proofs.OneRun.{settled_good, settled_faulty}
use Rattle.hm_build.proofs.laws.settled_sets_are_runs.Goals as goal

are_runs : SettledSetIsRun
are_runs sources p settled text read law s r = ((λ good. settled_good sources p settled text read law s r good), (λ bad. settled_faulty sources p settled text read law s r bad))

pub returns : goal.returns
returns c = are_runs
