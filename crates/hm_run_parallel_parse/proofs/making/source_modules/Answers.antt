use Rattle.std.proofs.Common.{ap, map, subst, ◌∙◌}
use Rattle.std.proofs.lemmas.Result.{IfErr-weaker, IfOk-weaker}
use Rattle.hm_run_sources.specs.Errors.{IsSourceError}
use Rattle.hm_run_sources.specs.SourceModules.{HasModules}
use Rattle.hm_run_sources.proofs.Reading.{counted_modules}
use Rattle.hm_run_parallel_parse.proofs.PartLemmas.{alone}
use Rattle.hm_run_parallel_parse.proofs.RunLemmas.{alone_fails}
use Rattle.hm_run_parallel_parse.proofs.making.source_modules.Goals as goal

pub returns-then-sources-eq1-clause-read : goal.returns-then-sources-eq1-clause-read
returns-then-sources-eq1-clause-read g c =
    let here = c.as_slice.ensures.value ∙ ap (λ v. v.items) c.index-sources-0.is in
    IfOk-weaker c.lone_modules.result _ _
    (λ r h. counted_modules (map (λ s. s.items) c.args.sources.now) r.modules.items r.counts.items
    (alone (λ s. s.items) c.args.sources.now c.index-sources-0.result r.modules.items r.counts.items c.if-sources-eq1.true (subst (λ l. HasModules l r.modules.items) here h.0) h.1))
    c.lone_modules.ensures.ok

pub returns-then-sources-eq1-clause-counted : goal.returns-then-sources-eq1-clause-counted
returns-then-sources-eq1-clause-counted g c =
    let here = c.as_slice.ensures.value ∙ ap (λ v. v.items) c.index-sources-0.is in
    IfOk-weaker c.lone_modules.result _ _
    (λ r h. alone (λ s. s.items) c.args.sources.now c.index-sources-0.result r.modules.items r.counts.items c.if-sources-eq1.true (subst (λ l. HasModules l r.modules.items) here h.0) h.1)
    c.lone_modules.ensures.ok

pub returns-then-sources-eq1-clause-err : goal.returns-then-sources-eq1-clause-err
returns-then-sources-eq1-clause-err g c =
    let here = c.as_slice.ensures.value ∙ ap (λ v. v.items) c.index-sources-0.is in
    IfErr-weaker c.lone_modules.result _ _
    (λ e h. alone_fails (λ s. s.items) c.args.sources.now c.index-sources-0.result e c.if-sources-eq1.true (subst (λ l. IsSourceError 1 l e) here h))
    c.lone_modules.ensures.err

pub returns-else-sources-eq1-clause-read : goal.returns-else-sources-eq1-clause-read
returns-else-sources-eq1-clause-read g c =
    IfOk-weaker c.modules_of_all.result _ _ (λ r h. counted_modules (map (λ s. s.items) c.args.sources.now) r.modules.items r.counts.items h) c.modules_of_all.ensures.ok
