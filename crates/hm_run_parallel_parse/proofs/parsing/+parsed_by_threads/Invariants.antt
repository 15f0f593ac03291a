use Rattle.std.proofs.Common.{length}
use Rattle.hm_run_parallel_parse.proofs.parsing.+parsed_by_threads.Given as goal

abbrev pub decreases-parsed_by_threads : goal.decreases-parsed_by_threads
decreases-parsed_by_threads g l = length l.rest.tokens.now
