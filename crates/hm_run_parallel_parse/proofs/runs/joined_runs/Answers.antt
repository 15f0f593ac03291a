use Rattle.hm_run_parallel_parse.proofs.RunLemmas.{runs_join}
use Rattle.hm_run_parallel_parse.proofs.runs.joined_runs.Goals as goal

pub returns-in-Ok : goal.returns-in-Ok
returns-in-Ok c = λ text ts us f l.
    let one = rw (c.in_ok-modules.was, c.in-Some.is) at f in
    let two = rw (c.in_ok-more.was, c.in-Some-2.is) at l in
    rw c.in-Ok.ensures.items (runs_join text ts us _ _ one two)
