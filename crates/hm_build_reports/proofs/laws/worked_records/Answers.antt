use Rattle.hm_build_reports.proofs.WorkedRecords as rows
use Rattle.hm_build_reports.proofs.laws.worked_records.Goals as goal

pub returns : goal.returns
returns c = record { rounds = rows.rounds; numbered = rows.numbered; finished = rows.finished }
