use Rattle.std.proofs.Common.{rules, append_assoc}
use Rattle.hm_run_sources.proofs.refusals.plan_text.Goals as goal

pub returns-in-Missing : goal.returns-in-Missing
returns-in-Missing c = rw c.in-Missing.is (simp append_assoc (search rules))
