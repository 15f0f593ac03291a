use Rattle.std.proofs.Common.{map}
use Rattle.hm_run_sources.proofs.sets.set_modules.Goals as goal

pub returns-in-Err-clause-err : goal.returns-in-Err-clause-err
returns-in-Err-clause-err c = c.source_error.ensures.err (map (λ s. s.items) c.args.sources.now) c.in-Err.ensures.err

pub returns-in-Err-clause-headers : goal.returns-in-Err-clause-headers
returns-in-Err-clause-headers c = c.source_error.ensures.headers (map (λ s. s.items) c.args.sources.now) c.in-Err.ensures.err
