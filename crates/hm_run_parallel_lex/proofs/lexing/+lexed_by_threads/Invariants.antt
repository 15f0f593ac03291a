use Rattle.std.proofs.Common.{◌-◌, length}
use Rattle.hm_run_parallel_lex.proofs.lexing.+lexed_by_threads.Given as goal

abbrev pub decreases-lexed_by_threads : goal.decreases-lexed_by_threads
decreases-lexed_by_threads g l = length l.rest.source.now - l.rest.from
