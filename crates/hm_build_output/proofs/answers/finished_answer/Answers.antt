use Rattle.std.proofs.Common.{length, ap, ◌∙◌, string_bytes}
use Rattle.hm_build_reports.specs.Settling.{statuses_of}
use Rattle.hm_build_output.proofs.FinishedRuns.{finished_run}
use Rattle.hm_build_output.proofs.answers.finished_answer.Goals as goal

pub returns-clause-run : goal.returns-clause-run
returns-clause-run c sources records workers finished =
    let same = c.as_slice.ensures.value in
    let status = c.status_of-status.ensures in
    finished_run c.args.store.now records c.as_slice.result.now sources workers c.args.journal c.status_of-status.result (string_bytes c.in_ok-text.text) c.in_ok-text.ensures
    (ap length same ∙ c.in_ok-settled.ensures.len) (ap statuses_of same ∙ c.in_ok-settled.ensures.settled) status.good status.faulty status.either finished
