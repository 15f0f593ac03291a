use Rattle.std.proofs.Common.{rules, ◌≡◌, Err, inl, inr, map, string_bytes, subst}
use Rattle.hm_run_io.proofs.Runs.{reads_before, reads_done, reads_passed_on}
use Rattle.hm_run_sources.specs.Runs.{IsPlanRun}
use Rattle.hm_run_sources.proofs.Telling.{run_held}
use Rattle.hm_run_sources.proofs.running.run_plan.Goals as goal

pub returns-in_err-sources-clause-reads : goal.returns-in_err-sources-clause-reads
returns-in_err-sources-clause-reads g c =
    let e = c.in_err-sources.field-0.0 in
    let is : c.from_residual.result ≡ Err e = search rules in
    reads_passed_on (λ d. g.R.Read.remaining d) c.args.readers.now c.read_all.new.readers e c.from_residual.result is c.in_err-sources.ensures.reads

pub returns-in_err-status-clause-reads : goal.returns-in_err-status-clause-reads
returns-in_err-status-clause-reads g c =
    let e = c.in_err-status.field-0.0 in
    let is : c.from_residual-in_err-status.result ≡ Err e = search rules in
    reads_before (λ d. g.R.Read.remaining d) c.args.readers.now c.read_all.new.readers c.in_ok-sources.sources e c.from_residual-in_err-status.result is (inr (inl (search rules))) c.in_ok-sources.ensures.reads

pub returns-in_err-write_text-clause-reads : goal.returns-in_err-write_text-clause-reads
returns-in_err-write_text-clause-reads g c =
    let e = c.in_err-write_text.field-0.0 in
    let is : c.from_residual-in_err-write_text.result ≡ Err e = search rules in
    reads_before (λ d. g.R.Read.remaining d) c.args.readers.now c.read_all.new.readers c.in_ok-sources.sources e c.from_residual-in_err-write_text.result is (inl (search rules)) c.in_ok-sources.ensures.reads

pub returns-clause-reads : goal.returns-clause-reads
returns-clause-reads g c = reads_done (λ d. g.R.Read.remaining d) c.args.readers.now c.read_all.new.readers c.in_ok-sources.sources _ c.in_ok-sources.ensures.reads

pub returns-in_err-write_text-clause-prefix : goal.returns-in_err-write_text-clause-prefix
returns-in_err-write_text-clause-prefix g c e sources told =
    let a = c.in_ok-status.field-0 in
    let held : IsPlanRun (map (λ s. s.items) c.in_ok-sources.sources.items) a.status (string_bytes a.text) = search rules in
    (a.status, string_bytes a.text, run_held sources a.status (string_bytes a.text) (subst (λ l. IsPlanRun l a.status (string_bytes a.text)) (c.in_ok-sources.ensures.bytes sources told) held), search rules)

pub returns-clause-ok : goal.returns-clause-ok
returns-clause-ok g c sources told =
    let a = c.in_ok-status.field-0 in
    let held : IsPlanRun (map (λ s. s.items) c.in_ok-sources.sources.items) a.status (string_bytes a.text) = search rules in
    (string_bytes a.text, run_held sources a.status (string_bytes a.text) (subst (λ l. IsPlanRun l a.status (string_bytes a.text)) (c.in_ok-sources.ensures.bytes sources told) held), search rules)

pub returns-clause-given : goal.returns-clause-given
returns-clause-given g c =
    let a = c.in_ok-status.field-0 in
    let held : IsPlanRun (map (λ s. s.items) c.in_ok-sources.sources.items) a.status (string_bytes a.text) = search rules in
    (string_bytes a.text, subst (λ l. IsPlanRun l a.status (string_bytes a.text)) c.in_ok-sources.ensures.given held, search rules)
