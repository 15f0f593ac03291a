use Rattle.std.proofs.Common.{map, sym, subst}
use Rattle.hm_run_sources.specs.ModuleCounts.{AreCountedModules}
use Rattle.hm_run_sources.proofs.Reading.{counted_modules}
use Rattle.hm_build_earlier.proofs.reading.read_after.Goals as goal

pub returns-in-Err-clause-err : goal.returns-in-Err-clause-err
returns-in-Err-clause-err g c = c.source_fault.ensures (map (λ s. s.items) c.args.sources.now) c.in-Err.ensures.err

pub returns-in_ok-with_store-in-Ok-plan_of-clause-read : goal.returns-in_ok-with_store-in-Ok-plan_of-clause-read
returns-in_ok-with_store-in-Ok-plan_of-clause-read g c =
    counted_modules (map (λ s. s.items) c.args.sources.now) _ c.in-Ok.shared.counts.items
    (subst (λ ms. AreCountedModules (map (λ s. s.items) c.args.sources.now) ms c.in-Ok.shared.counts.items) (sym c.in_ok-with_store-in-Ok-plan_of.ensures.modules) c.in-Ok.ensures.counted)
