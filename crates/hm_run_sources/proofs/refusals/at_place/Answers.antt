use Rattle.std.proofs.Common.{rules, append_assoc}
use Rattle.hm_run_sources.proofs.refusals.at_place.Goals as goal

pub returns : goal.returns
returns c = simp append_assoc (search rules)
