use Rattle.std.proofs.Common.{map}
use Rattle.hm_run_parallel_parse.proofs.making.set_modules_by.Goals as goal

pub returns-in-Err-clause-err : goal.returns-in-Err-clause-err
returns-in-Err-clause-err g c = c.source_error.ensures.err (map (λ s. s.items) c.args.sources.now) c.in-Err.ensures.err

pub returns-in-Err-clause-headers : goal.returns-in-Err-clause-headers
returns-in-Err-clause-headers g c = c.source_error.ensures.headers (map (λ s. s.items) c.args.sources.now) c.in-Err.ensures.err
