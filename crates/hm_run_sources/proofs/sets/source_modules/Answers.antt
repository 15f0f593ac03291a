use Rattle.hm_run_sources.proofs.Reading.{all_read}
use Rattle.hm_run_sources.proofs.sets.source_modules.Goals as goal

pub returns-clause-read : goal.returns-clause-read
returns-clause-read c =
    let read = c.in_ok-modules_between.field-0 in
    all_read (λ s. s.items) c.args.sources.now read.modules.items read.counts.items c.in_ok-modules_between.ensures.ok
