use Rattle.hm_store_shared.specs.Gathered.{records_in}
use Rattle.hm_build.proofs.outputs.build_output.Goals as goal

-- the output of a build that is finished
pub returns-in_ok-output-in-Ok-clause-ok : goal.returns-in_ok-output-in-Ok-clause-ok
returns-in_ok-output-in-Ok-clause-ok g c = c.in_ok-output-in-Ok.ensures (records_in c.in-Ok.finished.records) c.in-Ok.ensures.finished
