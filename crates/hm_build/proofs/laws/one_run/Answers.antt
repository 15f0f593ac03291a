use Rattle.hm_build_output.proofs.OneRun.{one_report, checked_not_refused, one_check_status}
use Rattle.hm_build.proofs.laws.one_run.Goals as goal

pub returns : goal.returns
returns c = record { text = one_report; not_both = checked_not_refused; status = one_check_status }
