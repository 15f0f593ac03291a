use Rattle.std.proofs.Common.{rules}
use Rattle.hm_run_parallel_parse.proofs.RunLemmas.{behind_lies, both_runs, front_lies}
use Rattle.hm_run_parallel_parse.proofs.parsing.+parsed_by_threads.Goals as goal

pub returns-in-Ok : goal.returns-in-Ok
returns-in-Ok g t c =
    let kept = rw c.in-Ok.ensures.ok at c.join.ensures in
    both_runs (λ v. v.items) _ _ _ _ _ _ c.joined_runs.result c.joined_runs.ensures c.split_at.ensures.by_index.0 kept c.parsed_by_threads-later.ensures

pub returns-in-Err : goal.returns-in-Err
returns-in-Err g t c =
    both_runs (λ v. v.items) _ _ _ _ _ _ c.joined_runs-in-Err.result c.joined_runs-in-Err.ensures c.split_at.ensures.by_index.0 c.parsed-in-Err.ensures c.parsed_by_threads-later.ensures

pub spawn_scoped_with-begun-requires-clause-runs : goal.spawn_scoped_with-begun-requires-clause-runs
spawn_scoped_with-begun-requires-clause-runs g t c κs within = front_lies _ _ _ _ c.requires c.split_at.ensures.front

pub parsed_by_threads-later-requires : goal.parsed_by_threads-later-requires
parsed_by_threads-later-requires g t c κs within =
    let lies = behind_lies _ _ _ _ c.requires c.split_at.ensures.back in
    search (lies, rules)

pub parsed-requires-in-Err : goal.parsed-requires-in-Err
parsed-requires-in-Err g t c = front_lies _ _ _ _ c.requires c.split_at.ensures.front
