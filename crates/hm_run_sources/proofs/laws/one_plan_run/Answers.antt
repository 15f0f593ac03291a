use Rattle.hm_run_sources.proofs.OneText.{one_plan_text}
use Rattle.hm_run_sources.proofs.OneRefusal.{one_plan_status, refused_once}
use Rattle.hm_run_sources.proofs.laws.one_plan_run.Goals as goal

pub returns : goal.returns
returns c = record { text = one_plan_text; status = one_plan_status; refusal = refused_once }
