use Rattle.std.proofs.Common.{rules, ◌≡◌, Err, inl, inr, refl, string_bytes}
use Rattle.hm_build_output.proofs.Telling.{stated_to}
use Rattle.hm_build.proofs.RunFaults.{not_of_writing, some_at, writes_failed}
use Rattle.hm_run_io.proofs.Runs.{reads_before, reads_done, reads_passed_on, writes_nothing}
use Rattle.hm_build.proofs.runs_with_messages.run_with_messages.Goals as goal

pub returns-in-Some-clause-reads : goal.returns-in-Some-clause-reads
returns-in-Some-clause-reads g c = reads_passed_on (λ d. g.R.Read.remaining d) c.args.readers.now c.read_and_check.new.readers c.in-Err.fault (Err c.in-Err.fault) refl c.in-Err.ensures.reads

pub returns-in-Some-clause-writes : goal.returns-in-Some-clause-writes
returns-in-Some-clause-writes g c = writes_nothing c.args.outputs.now.writer c.in-Err.fault (Err c.in-Err.fault) refl c.requires.writer c.in-Err.ensures.others

pub returns-in_default-clause-reads : goal.returns-in_default-clause-reads
returns-in_default-clause-reads g c = reads_passed_on (λ d. g.R.Read.remaining d) c.args.readers.now c.read_and_check.new.readers c.in-Err.fault (Err c.in-Err.fault) refl c.in-Err.ensures.reads

pub returns-in_default-clause-writes : goal.returns-in_default-clause-writes
returns-in_default-clause-writes g c = writes_nothing c.args.outputs.now.writer c.in-Err.fault (Err c.in-Err.fault) refl c.requires.writer c.in-Err.ensures.others

pub returns-in_default-clause-prefix : goal.returns-in_default-clause-prefix
returns-in_default-clause-prefix g c is = absurd (not_of_writing c.in-Err.fault c.in-Err.ensures.others is)

-- the message of a module for which memory ran out
pub returns-in-Some-clause-exhausted : goal.returns-in-Some-clause-exhausted
returns-in-Some-clause-exhausted g c is sources told =
    inr (c.in-Some.message.items, some_at _ c.read_and_check.new.note c.in-Some.message c.in-Some.is c.in-Err.ensures.exhausted sources told, stated_to c.write_text.result _ _ c.in-Some.message.items _ (search rules) (search rules) (search rules))

pub returns-in_err-write_text-clause-reads : goal.returns-in_err-write_text-clause-reads
returns-in_err-write_text-clause-reads g c =
    let e = c.in_err-write_text.field-0.0 in
    let is : c.from_residual.result ≡ Err e = search rules in
    reads_before (λ d. g.R.Read.remaining d) c.args.readers.now c.read_and_check.new.readers c.in-Ok.output e c.from_residual.result is (inl (search rules)) c.in-Ok.ensures.reads

pub returns-in_err-write_text-clause-writes : goal.returns-in_err-write_text-clause-writes
returns-in_err-write_text-clause-writes g c =
    let e = c.in_err-write_text.field-0.0 in
    let is : c.from_residual.result ≡ Err e = search rules in
    writes_failed c.args.outputs.now.writer c.write_text-2.new.writer e c.from_residual.result is c.in_err-write_text.ensures.others c.in_err-write_text.ensures.once c.in_err-write_text.ensures.cause

pub returns-clause-reads : goal.returns-clause-reads
returns-clause-reads g c = reads_done (λ d. g.R.Read.remaining d) c.args.readers.now c.read_and_check.new.readers c.in-Ok.output c.in-Ok.output.status c.in-Ok.ensures.reads

pub returns-in_err-write_text-clause-prefix : goal.returns-in_err-write_text-clause-prefix
returns-in_err-write_text-clause-prefix g c e sources told =
    let o = c.in-Ok.output in
    (o.status, string_bytes o.text, o.messages.items, c.in-Ok.ensures.ok sources told, search rules)

pub returns-clause-ok : goal.returns-clause-ok
returns-clause-ok g c sources told =
    let o = c.in-Ok.output in
    (string_bytes o.text, o.messages.items, c.in-Ok.ensures.ok sources told, search rules, stated_to c.write_text-3.result _ _ o.messages.items _ (search rules) (search rules) (search rules))

pub returns-clause-given : goal.returns-clause-given
returns-clause-given g c =
    let o = c.in-Ok.output in
    (string_bytes o.text, o.messages.items, c.in-Ok.ensures.given, search rules, stated_to c.write_text-3.result _ _ o.messages.items _ (search rules) (search rules) (search rules))
