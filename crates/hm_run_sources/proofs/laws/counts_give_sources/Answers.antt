use Rattle.hm_run_sources.proofs.ModuleCounts.{have_origins, spelled_by_counts}
use Rattle.hm_run_sources.proofs.laws.counts_give_sources.Goals as goal

pub returns : goal.returns
returns c = record { sources = spelled_by_counts; origins = have_origins }
