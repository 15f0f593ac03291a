use Rattle.std.proofs.Common.{◌-◌}
use Rattle.hm_run_parallel_parse.proofs.making.+made_by_threads.Given as goal

abbrev pub decreases-made_by_threads : goal.decreases-made_by_threads
decreases-made_by_threads g l = l.rest.to - l.rest.from
