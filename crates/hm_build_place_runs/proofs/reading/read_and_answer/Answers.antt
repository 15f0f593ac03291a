use Rattle.std.proofs.Common.{rules, ◌≡◌, ◌<◌, ◌≤◌, Err, inr, map, string_bytes, subst}
use Rattle.hm_build.proofs.RunFaults.{only_read_faults}
use Rattle.hm_run_io.proofs.Runs.{reads_before, reads_done, reads_passed_on}
use Rattle.hm_build_place_runs.specs.Runs.{IsPlaceRun}
use Rattle.hm_build_place_runs.proofs.reading.read_and_answer.Goals as goal

pub returns-clause-ok : goal.returns-clause-ok
returns-clause-ok g c sources told =
    let a = c.in_ok-answer_on_thread.field-0 in
    let question = c.args.asked.question in
    subst (λ l. IsPlaceRun (map (λ n. n.items) question.names.items) l (record { source = question.source; line = question.line; column = question.column; format = question.format }) a.status (string_bytes a.text)) (c.in_ok-sources.ensures.bytes sources told)
    c.in_ok-answer_on_thread.ensures.ok

pub returns-in_err-sources-clause-reads : goal.returns-in_err-sources-clause-reads
returns-in_err-sources-clause-reads g c =
    let e = c.in_err-sources.field-0.0 in
    let is : c.from_residual.result ≡ Err e = search rules in
    reads_passed_on (λ d. g.R.Read.remaining d) c.args.readers.now c.read_all.new.readers e c.from_residual.result is c.in_err-sources.ensures.reads

pub returns-in_err-answer_on_thread-clause-reads : goal.returns-in_err-answer_on_thread-clause-reads
returns-in_err-answer_on_thread-clause-reads g c =
    let e = c.in_err-answer_on_thread.field-0.0 in
    let is : c.from_residual-in_err-answer_on_thread.result ≡ Err e = search rules in
    reads_before (λ d. g.R.Read.remaining d) c.args.readers.now c.read_all.new.readers c.in_ok-sources.sources e c.from_residual-in_err-answer_on_thread.result is (inr c.in_err-answer_on_thread.ensures.err) c.in_ok-sources.ensures.reads

pub returns-clause-reads : goal.returns-clause-reads
returns-clause-reads g c = reads_done (λ d. g.R.Read.remaining d) c.args.readers.now c.read_all.new.readers c.in_ok-sources.sources c.in_ok-answer_on_thread.field-0 c.in_ok-sources.ensures.reads

pub returns-in_err-sources-clause-workers : goal.returns-in_err-sources-clause-workers
returns-in_err-sources-clause-workers g c =
    let low : 0 < c.args.asked.options.workers = search rules in
    let high : c.args.asked.options.workers ≤ 16 = search rules in
    let is : c.from_residual.result ≡ Err c.in_err-sources.field-0.0 = search rules in
    only_read_faults c.args.asked.options.workers c.from_residual.result c.in_err-sources.field-0.0 is c.in_err-sources.ensures.others low high

pub returns-clause-given : goal.returns-clause-given
returns-clause-given g c =
    let a = c.in_ok-answer_on_thread.field-0 in
    let question = c.args.asked.question in
    subst (λ l. IsPlaceRun (map (λ n. n.items) question.names.items) l (record { source = question.source; line = question.line; column = question.column; format = question.format }) a.status (string_bytes a.text)) c.in_ok-sources.ensures.given
    c.in_ok-answer_on_thread.ensures.ok
