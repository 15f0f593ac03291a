use Rattle.hm_build.proofs.WorkedRuns as rows
use Rattle.hm_build.proofs.laws.worked_runs.Goals as goal

pub returns : goal.returns
returns c = record { journal = rows.journal; verdicts = rows.verdicts; nothing = rows.no_sources; output = rows.output; room = rows.room }
