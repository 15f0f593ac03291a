use Rattle.std.proofs.Common.{rules, ◌≡◌, ℕ, [], ◌∷◌, ◌++◌, length, ap, subst, ◌∙◌, ◌+◌}
use Rattle.std.proofs.lemmas.Result.{err_from_is_err_and}
use Rattle.hm_run_sources.specs.Errors.{IsSourceError}
use Rattle.hm_run_sources.specs.SourceModules.{HasModules}
use Rattle.hm_run_sources.proofs.Reading.{counted_modules, counted_more, first_fault, length_taken, parted, taken_more}
use Rattle.hm_build_earlier.proofs.reading.shared_modules.Goals as goal

pub returns-in_err-count-clause-err : goal.returns-in_err-count-clause-err
returns-in_err-count-clause-err c =
    let p = err_from_is_err_and c.from_residual.result c.from_residual.ensures.1 in
    let d = c.index-sources-index.result in
    let here = c.as_slice-text.ensures.value ∙ ap (λ v. v.items) c.index-sources-index.is in
    rw (p.1, p.2) (first_fault _ _ _ _ _ _ _ (parted (λ s. s.items) c.args.sources.now c.loop-index.index d (search rules)) (counted_modules _ _ _ c.loop-index.invariant)
    (length_taken (λ s. s.items) c.args.sources.now c.loop-index.index d (search rules))
    (subst (λ l. IsSourceError (c.loop-index.index + 1) l c.in_err-count.field-0.0) here c.in_err-count.ensures.err))

pub loop-index-preserved : goal.loop-index-preserved
loop-index-preserved c =
    let ok = c.in_ok-count.ensures.ok in
    let d = c.index-sources-index.result in
    let here = c.as_slice-text.ensures.value ∙ ap (λ v. v.items) c.index-sources-index.is in
    let pushed : c.push.new.self.items ≡ c.loop-index.counts.items ++ c.in_ok-count.count ∷ [] = search rules in
    let counted : c.push.new.self.items ≡ c.loop-index.counts.items ++ length ok.0 ∷ [] = pushed ∙ ap (λ (n : ℕ). c.loop-index.counts.items ++ n ∷ []) ok.3 in
    rw (taken_more (λ s. s.items) c.args.sources.now c.loop-index.index d (search rules), ok.2, counted)
    (counted_more _ _ _ _ _ c.loop-index.invariant (subst (λ l. HasModules l ok.0) here ok.1))
