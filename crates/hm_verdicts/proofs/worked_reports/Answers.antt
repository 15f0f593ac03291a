use Rattle.hm_verdicts.proofs.WorkedVerdicts as rows
use Rattle.hm_verdicts.proofs.worked_reports.Goals as goal

pub returns : goal.returns
returns c = record { progress = rows.progress; published = rows.published; line = rows.line; report = rows.report; all_good = rows.all_good }
