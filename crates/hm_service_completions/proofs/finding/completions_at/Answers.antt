use Rattle.hm_service_completions.specs.Completions.{in_module}
use Rattle.hm_service_completions.proofs.finding.completions_at.Goals as goal

pub returns : goal.returns
returns c = in_module c.in-Some.ensures.some c.in_ok-names_of.ensures
