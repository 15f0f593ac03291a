use Rattle.std.proofs.Common.{rules, ◌≡◌, ◌<◌, ◌≤◌, Err, inr, refl, string_bytes, subst}
use Rattle.hm_build_output.specs.Outputs.{IsExhaustionFor, IsOutput}
use Rattle.hm_build_output.proofs.HeldRuns.{output_held}
use Rattle.hm_build.proofs.RunFaults.{only_read_faults, some_more}
use Rattle.hm_run_io.proofs.Runs.{reads_before, reads_done, reads_passed_on}
use Rattle.hm_build.proofs.reading.read_and_check.Goals as goal

pub returns-in-Ok-clause-ok : goal.returns-in-Ok-clause-ok
returns-in-Ok-clause-ok g c sources told =
    let o = c.in-Ok.output in
    let options = c.args.run_options in
    output_held options sources o.status (string_bytes o.text) o.messages.items (subst (λ l. IsOutput options l l o.status (string_bytes o.text) o.messages.items) (c.in_ok-sources.ensures.bytes sources told) c.in-Ok.ensures.ok)

pub returns-in-Err-clause-exhausted : goal.returns-in-Err-clause-exhausted
returns-in-Err-clause-exhausted g c =
    some_more c.in-Err.none.message (λ m h sources told. subst (λ l. IsExhaustionFor c.args.run_options.messages l m.items) (c.in_ok-sources.ensures.bytes sources told) h) c.in-Err.ensures.exhausted

pub returns-in_err-sources-clause-reads : goal.returns-in_err-sources-clause-reads
returns-in_err-sources-clause-reads g c =
    let e = c.in_err-sources.field-0.0 in
    let is : c.from_residual.result ≡ Err e = search rules in
    reads_passed_on (λ d. g.R.Read.remaining d) c.args.readers.now c.read_all.new.readers e c.from_residual.result is c.in_err-sources.ensures.reads

pub returns-in-Err-clause-reads : goal.returns-in-Err-clause-reads
returns-in-Err-clause-reads g c =
    let e = c.in-Err.none.fault in
    reads_before (λ d. g.R.Read.remaining d) c.args.readers.now c.read_all.new.readers c.in_ok-sources.sources e (Err e) refl (inr c.in-Err.ensures.err) c.in_ok-sources.ensures.reads

pub returns-in-Ok-clause-reads : goal.returns-in-Ok-clause-reads
returns-in-Ok-clause-reads g c = reads_done (λ d. g.R.Read.remaining d) c.args.readers.now c.read_all.new.readers c.in_ok-sources.sources c.in-Ok.output c.in_ok-sources.ensures.reads

pub returns-in_err-sources-clause-workers : goal.returns-in_err-sources-clause-workers
returns-in_err-sources-clause-workers g c =
    let low : 0 < c.args.run_options.options.workers = search rules in
    let high : c.args.run_options.options.workers ≤ 16 = search rules in
    let is : c.from_residual.result ≡ Err c.in_err-sources.field-0.0 = search rules in
    only_read_faults c.args.run_options.options.workers c.from_residual.result c.in_err-sources.field-0.0 is c.in_err-sources.ensures.others low high

pub returns-in-Ok-clause-given : goal.returns-in-Ok-clause-given
returns-in-Ok-clause-given g c =
    let o = c.in-Ok.output in
    subst (λ l. IsOutput c.args.run_options l l o.status (string_bytes o.text) o.messages.items) c.in_ok-sources.ensures.given c.in-Ok.ensures.ok
