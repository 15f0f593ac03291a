use Rattle.std.proofs.Common.{rules, ◌≡◌, Err, inl, string_bytes}
use Rattle.hm_build.proofs.RunFaults.{one_of_all, writes_failed}
use Rattle.hm_run_io.proofs.Runs.{reads_before, reads_done, reads_passed_on, writes_nothing}
use Rattle.hm_build_place_runs.proofs.running.run_place.Goals as goal

pub returns-in_err-answer-clause-reads : goal.returns-in_err-answer-clause-reads
returns-in_err-answer-clause-reads g c =
    let e = c.in_err-answer.field-0.0 in
    let is : c.from_residual.result ≡ Err e = search rules in
    reads_passed_on (λ d. g.R.Read.remaining d) c.args.readers.now c.read_and_answer.new.readers e c.from_residual.result is c.in_err-answer.ensures.reads

pub returns-in_err-answer-clause-writes : goal.returns-in_err-answer-clause-writes
returns-in_err-answer-clause-writes g c =
    let e = c.in_err-answer.field-0.0 in
    let is : c.from_residual.result ≡ Err e = search rules in
    writes_nothing c.args.writer.now e c.from_residual.result is c.requires.writer c.in_err-answer.ensures.others

pub returns-in_err-write_text-clause-reads : goal.returns-in_err-write_text-clause-reads
returns-in_err-write_text-clause-reads g c =
    let e = c.in_err-write_text.field-0.0 in
    let is : c.from_residual-in_err-write_text.result ≡ Err e = search rules in
    reads_before (λ d. g.R.Read.remaining d) c.args.readers.now c.read_and_answer.new.readers c.in_ok-answer.answer e c.from_residual-in_err-write_text.result is (inl (search rules)) c.in_ok-answer.ensures.reads

pub returns-in_err-write_text-clause-writes : goal.returns-in_err-write_text-clause-writes
returns-in_err-write_text-clause-writes g c =
    let e = c.in_err-write_text.field-0.0 in
    let is : c.from_residual-in_err-write_text.result ≡ Err e = search rules in
    writes_failed c.args.writer.now c.write_text.new.writer e c.from_residual-in_err-write_text.result is c.in_err-write_text.ensures.others c.in_err-write_text.ensures.once c.in_err-write_text.ensures.cause

pub returns-clause-reads : goal.returns-clause-reads
returns-clause-reads g c = reads_done (λ d. g.R.Read.remaining d) c.args.readers.now c.read_and_answer.new.readers c.in_ok-answer.answer c.in_ok-answer.answer.status c.in_ok-answer.ensures.reads

pub returns-in_err-write_text-clause-prefix : goal.returns-in_err-write_text-clause-prefix
returns-in_err-write_text-clause-prefix g c e sources told =
    let a = c.in_ok-answer.answer in
    (a.status, string_bytes a.text, c.in_ok-answer.ensures.ok sources told, search rules)

pub returns-clause-ok : goal.returns-clause-ok
returns-clause-ok g c sources told =
    let a = c.in_ok-answer.answer in
    (string_bytes a.text, c.in_ok-answer.ensures.ok sources told, search rules)

pub returns-in_err-answer-clause-others : goal.returns-in_err-answer-clause-others
returns-in_err-answer-clause-others g c =
    let e = c.in_err-answer.field-0.0 in
    let is : c.from_residual.result ≡ Err e = search rules in
    one_of_all c.from_residual.result e is c.in_err-answer.ensures.others

pub returns-clause-given : goal.returns-clause-given
returns-clause-given g c =
    let a = c.in_ok-answer.answer in
    (string_bytes a.text, c.in_ok-answer.ensures.given, search rules)
