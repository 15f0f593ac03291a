use Rattle.std.proofs.Common.{rules, ◌≡◌, ◌++◌, replicate, get_or}
use Rattle.hm_run_sources.proofs.ModuleCounts.{origins_more}
use Rattle.hm_run_sources.proofs.counting.origins_of.Goals as goal

pub loop-source-preserved : goal.loop-source-preserved
loop-source-preserved c =
    let counts = c.args.counts.now in
    let source = c.loop-source.source in
    let pushed : c.add_origins.new.origins.items ≡ c.loop-source.origins.items ++ replicate (get_or counts source 0) source = search rules in
    origins_more counts source c.loop-source.origins.items c.add_origins.new.origins.items (search rules) c.loop-source.invariant pushed
