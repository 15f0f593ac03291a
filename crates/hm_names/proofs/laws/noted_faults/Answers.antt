use Rattle.hm_names.proofs.Standing.{noted_somewhere}
use Rattle.hm_names.proofs.laws.noted_faults.Goals as goal

pub returns : goal.returns
returns c = noted_somewhere
