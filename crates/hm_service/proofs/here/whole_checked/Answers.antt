use Rattle.std.proofs.Common.{◌≡◌, ◌∙◌, List, ℕ, None, Vec, Global, ap, length, map, refl, subst, sym}
use Rattle.std.proofs.lemmas.List.{length-map}
use Rattle.hm_build_reports.specs.FinishedBuilds.{IsFinished}
use Rattle.hm_run_sources.specs.ModuleCounts.{AreCountedModules, AreOrigins}
use Rattle.hm_service_sources.specs.HeldSets.{AreAll}
use Rattle.hm_store_shared.specs.Gathered.{records_in}
use Rattle.hm_service_runs.specs.Runs.{IsRunTold}
use Rattle.hm_service.proofs.CheckSteps.{whole_check}
use Rattle.hm_service.proofs.here.whole_checked.Goals as goal

pub finished_told-requires-clause-finished : goal.finished_told-requires-clause-finished
finished_told-requires-clause-finished c =
    let b = c.args.build in
    let same : map (λ s. s.items) c.as_slice-2.result.now ≡ map (λ s. s.items) c.args.held.now.standing.items =
    ap (map (λ s. s.items)) c.as_slice-2.ensures.value ∙ (c.in_ok-texts.ensures ∙ ap (map (λ s. s.items)) c.as_slice-standing.ensures.value) in
    subst (λ (l : List (List ℕ)). IsFinished l c.args.workers b.store (records_in b.records)) (sym same) c.requires.finished

pub finished_told-requires-clause-counted : goal.finished_told-requires-clause-counted
finished_told-requires-clause-counted c =
    let b = c.args.build in
    let same : map (λ s. s.items) c.as_slice-2.result.now ≡ map (λ s. s.items) c.args.held.now.standing.items =
    ap (map (λ s. s.items)) c.as_slice-2.ensures.value ∙ (c.in_ok-texts.ensures ∙ ap (map (λ s. s.items)) c.as_slice-standing.ensures.value) in
    subst (λ (l : List (List ℕ)). AreCountedModules l b.store.modules b.counts.items) (sym same) c.requires.counted

pub returns : goal.returns
returns c =
    let held = c.args.held.now in
    let standing = map (λ s. s.items) held.standing.items in
    let part = c.in_ok-part.part in
    let texts = c.in_ok-texts.texts in
    let told = c.in_ok-told.told in
    let same : map (λ s. s.items) texts.items ≡ standing = c.in_ok-texts.ensures ∙ ap (map (λ s. s.items)) c.as_slice-standing.ensures.value in
    let size : length c.as_slice-standing.result.now ≡ length standing = ap (λ (l : List (Vec ℕ Global)). length l) c.as_slice-standing.ensures.value ∙ sym (length-map held.standing.items (λ (s : Vec ℕ Global). s.items)) in
    let all : AreAll (length standing) part.items = subst (λ (n : ℕ). AreAll n part.items) size c.in_ok-part.ensures in
    let run : IsRunTold c.args.workers part.items (map (λ s. s.items) texts.items) told =
    subst (λ (l : List ℕ). IsRunTold c.args.workers l (map (λ s. s.items) texts.items) told) c.as_slice-3.ensures.value
    (subst (λ (ts : List (Vec ℕ Global)). IsRunTold c.args.workers c.as_slice-3.result.now (map (λ s. s.items) ts) told) c.as_slice-2.ensures.value c.in_ok-told.ensures) in
    let origins : AreOrigins c.args.build.counts.items c.in_ok-origins.origins.items = subst (λ (l : List ℕ). AreOrigins l c.in_ok-origins.origins.items) c.as_slice.ensures.value c.in_ok-origins.ensures in
    whole_check c.args.workers held.unread.items (map (λ s. s.items) held.texts.items) standing
    (record { part = part; texts = texts; unread = c.args.unread; refused = None; told = told; build = c.args.build; spelled = c.of-spelled.result; counted = c.result-1.given.0 }) c.requires.unread run c.requires.verdicts c.in_ok-origins.origins.items refl all same c.requires.finished c.requires.counted
    c.legal.ensures origins
