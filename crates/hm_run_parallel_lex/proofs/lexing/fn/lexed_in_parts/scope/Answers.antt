use Rattle.hm_run_parallel_lex.proofs.Spans.{whole_source}
use Rattle.hm_run_parallel_lex.proofs.lexing.fn.lexed_in_parts.scope.Goals as goal

pub returns : goal.returns
returns g c = whole_source c.captures.source.now c.lexed_by_threads.result c.lexed_by_threads.ensures
