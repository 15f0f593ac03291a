use Rattle.std.proofs.Common.{rules, ◌≡◌, Err, inl, refl, string_bytes}
use Rattle.hm_build_output.proofs.HeldRuns.{written_run}
use Rattle.hm_build.proofs.RunFaults.{one_of_all, writes_failed}
use Rattle.hm_run_io.proofs.Runs.{reads_before, reads_done, reads_passed_on, writes_nothing}
use Rattle.hm_build.proofs.running.run.Goals as goal

pub returns-in_err-output-clause-reads : goal.returns-in_err-output-clause-reads
returns-in_err-output-clause-reads g c =
    let e = c.in_err-output.field-0.0 in
    let is : c.from_residual.result ≡ Err e = search rules in
    reads_passed_on (λ d. g.R.Read.remaining d) c.args.readers.now c.read_and_check.new.readers e c.from_residual.result is c.in_err-output.ensures.reads

pub returns-in_err-output-clause-writes : goal.returns-in_err-output-clause-writes
returns-in_err-output-clause-writes g c =
    let e = c.in_err-output.field-0.0 in
    let is : c.from_residual.result ≡ Err e = search rules in
    writes_nothing c.args.writer.now e c.from_residual.result is c.requires.writer c.in_err-output.ensures.others

pub returns-in_err-write_text-clause-reads : goal.returns-in_err-write_text-clause-reads
returns-in_err-write_text-clause-reads g c =
    let e = c.in_err-write_text.field-0.0 in
    let is : c.from_residual-in_err-write_text.result ≡ Err e = search rules in
    reads_before (λ d. g.R.Read.remaining d) c.args.readers.now c.read_and_check.new.readers c.in_ok-output.output e c.from_residual-in_err-write_text.result is (inl (search rules)) c.in_ok-output.ensures.reads

pub returns-in_err-write_text-clause-writes : goal.returns-in_err-write_text-clause-writes
returns-in_err-write_text-clause-writes g c =
    let e = c.in_err-write_text.field-0.0 in
    let is : c.from_residual-in_err-write_text.result ≡ Err e = search rules in
    writes_failed c.args.writer.now c.write_text.new.writer e c.from_residual-in_err-write_text.result is c.in_err-write_text.ensures.others c.in_err-write_text.ensures.once c.in_err-write_text.ensures.cause

pub returns-clause-reads : goal.returns-clause-reads
returns-clause-reads g c = reads_done (λ d. g.R.Read.remaining d) c.args.readers.now c.read_and_check.new.readers c.in_ok-output.output c.in_ok-output.output.status c.in_ok-output.ensures.reads

pub returns-in_err-write_text-clause-prefix : goal.returns-in_err-write_text-clause-prefix
returns-in_err-write_text-clause-prefix g c e sources told =
    let o = c.in_ok-output.output in
    let h = c.in_ok-output.ensures.ok sources told in
    (o.status, string_bytes o.text, written_run _ sources _ o.status _ o.messages.items refl h, search rules)

pub returns-clause-ok : goal.returns-clause-ok
returns-clause-ok g c sources told =
    let o = c.in_ok-output.output in
    (string_bytes o.text, written_run _ sources _ o.status _ o.messages.items refl (c.in_ok-output.ensures.ok sources told), search rules)

pub returns-in_err-output-clause-others : goal.returns-in_err-output-clause-others
returns-in_err-output-clause-others g c =
    let e = c.in_err-output.field-0.0 in
    let is : c.from_residual.result ≡ Err e = search rules in
    one_of_all c.from_residual.result e is c.in_err-output.ensures.others

pub returns-clause-given : goal.returns-clause-given
returns-clause-given g c =
    let o = c.in_ok-output.output in
    (string_bytes o.text, written_run _ _ _ o.status _ o.messages.items refl c.in_ok-output.ensures.given, search rules)
