use Rattle.hm_verdicts.proofs.WorkedPlan.{three_lawful}
use Rattle.hm_verdicts.proofs.WorkedReport.{three_reported}
use Rattle.hm_verdicts.proofs.three_modules_are_reported.Goals as goal

pub returns : goal.returns
returns c = (three_lawful, three_reported)
