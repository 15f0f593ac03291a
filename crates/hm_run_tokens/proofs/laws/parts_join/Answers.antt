use Rattle.hm_run_tokens.proofs.Joins.{parts_join}
use Rattle.hm_run_tokens.proofs.laws.parts_join.Goals as goal

pub returns : goal.returns
returns c = parts_join
