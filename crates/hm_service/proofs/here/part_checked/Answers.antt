use Rattle.std.proofs.Common.{◌≡◌, ◌∙◌, ◌<◌, ◌↔◌, All, Contains, List, ℕ, Vec, Global, Some, true, ap, length, map, refl, rules, subst, sym}
use Rattle.std.proofs.lemmas.List.{length-map}
use Rattle.hm_build_reports.specs.FinishedBuilds.{IsFinished}
use Rattle.hm_run_sources.specs.ModuleCounts.{AreCountedModules}
use Rattle.hm_run_sources.specs.Origins.{AreLocated}
use Rattle.hm_run_sources.specs.declared.located.Located.{Located}
use Rattle.hm_service_runs.specs.Runs.{IsRunTold}
use Rattle.hm_service_sources.proofs.Numbers.{all_below}
use Rattle.hm_service_sources.specs.HeldSets.{AreAll, texts_at}
use Rattle.hm_service_sources.specs.LeftOut.{IsLeftOut}
use Rattle.hm_store_shared.specs.Gathered.{records_in}
use Rattle.hm_service.proofs.CheckSteps.{part_check}
use Rattle.hm_service.proofs.Located.{all_located, sources_within}
use Rattle.hm_service.proofs.here.part_checked.Goals as goal

pub checkable-requires : goal.checkable-requires
checkable-requires g c =
    let held = c.args.given.now.held.now in
    let refused = c.args.refused in
    let standing = map (λ (s : Vec ℕ Global). s.items) held.standing.items in
    let set : c.is_of_plan.result ≡ true = search rules in
    let located : AreLocated standing refused.located.items = all_located standing refused.fault refused.located.items (c.is_of_plan.ensures set) c.requires.headers in
    let size : length c.as_slice-standing.result.now ≡ length standing = ap (λ (l : List (Vec ℕ Global)). length l) c.as_slice-standing.ensures.value ∙ sym (length-map held.standing.items (λ (s : Vec ℕ Global). s.items)) in
    subst (λ (n : ℕ). All (λ l. l.source < n) c.as_slice-2.result.now) (sym size)
    (subst (λ (ls : List Located). All (λ l. l.source < length standing) ls) (sym c.as_slice-2.ensures.value) (sources_within standing refused.located.items located))

pub texts_at-requires : goal.texts_at-requires
texts_at-requires g c =
    let n = length c.as_slice-standing.result.now in
    subst (λ (l : List ℕ). All (λ k. k < n) l) (sym c.as_slice-3.ensures.value) (all_below c.in_ok-part.part.items n (λ k there. ((c.in_ok-part.ensures.members k).0 there).0))

pub returns : goal.returns
returns g c =
    let held = c.args.given.now.held.now in
    let refused = c.args.refused in
    let workers = c.args.given.now.workers in
    let standing = map (λ (s : Vec ℕ Global). s.items) held.standing.items in
    let part = c.in_ok-part.part in
    let texts = c.in_ok-texts.texts in
    let told = c.in_ok-told.told in
    let why = c.in_ok-why.why in
    let build = c.in-Ok.build in
    let numbers = c.in_ok-numbers.numbers in
    let items : List (Vec ℕ Global) → List (List ℕ) = λ ts. map (λ (s : Vec ℕ Global). s.items) ts in
    let set : c.is_of_plan.result ≡ true = search rules in
    let located : AreLocated standing refused.located.items = all_located standing refused.fault refused.located.items (c.is_of_plan.ensures set) c.requires.headers in
    let size : length c.as_slice-standing.result.now ≡ length standing = ap (λ (l : List (Vec ℕ Global)). length l) c.as_slice-standing.ensures.value ∙ sym (length-map held.standing.items (λ (s : Vec ℕ Global). s.items)) in
    let run : IsRunTold workers part.items (items texts.items) told =
    subst (λ (l : List ℕ). IsRunTold workers l (items texts.items) told) c.as_slice-6.ensures.value
    (subst (λ (ts : List (Vec ℕ Global)). IsRunTold workers c.as_slice-6.result.now (items ts) told) c.as_slice-5.ensures.value c.in_ok-told.ensures) in
    let all : AreAll (length standing) numbers.items = subst (λ (n : ℕ). AreAll n numbers.items) size c.in_ok-numbers.ensures in
    let reason : IsRunTold workers numbers.items standing why =
    subst (λ (l : List ℕ). IsRunTold workers l standing why) c.as_slice.ensures.value
    (subst (λ (ts : List (Vec ℕ Global)). IsRunTold workers c.as_slice.result.now (items ts) why) c.as_slice-standing.ensures.value c.in_ok-why.ensures) in
    let members : (s : ℕ) → Contains part.items s ↔ ((s < length standing) × ¬ (IsLeftOut refused.located.items s)) =
    subst (λ (ls : List Located). (s : ℕ) → Contains part.items s ↔ ((s < length standing) × ¬ (IsLeftOut ls s))) c.as_slice-2.ensures.value
    (subst (λ (n : ℕ). (s : ℕ) → Contains part.items s ↔ ((s < n) × ¬ (IsLeftOut c.as_slice-2.result.now s))) size c.in_ok-part.ensures.members) in
    let same : items texts.items ≡ texts_at standing part.items =
    subst (λ (ts : List (Vec ℕ Global)). items texts.items ≡ texts_at (items ts) part.items) c.as_slice-standing.ensures.value
    (subst (λ (l : List ℕ). items texts.items ≡ texts_at (items c.as_slice-standing.result.now) l) c.as_slice-3.ensures.value c.in_ok-texts.ensures) in
    let finished : IsFinished (items texts.items) workers build.store (records_in build.records) = subst (λ (ts : List (Vec ℕ Global)). IsFinished (items ts) workers build.store (records_in build.records)) c.as_slice-4.ensures.value c.in-Ok.ensures.finished in
    let counted : AreCountedModules (items texts.items) build.store.modules build.counts.items = subst (λ (ts : List (Vec ℕ Global)). AreCountedModules (items ts) build.store.modules build.counts.items) c.as_slice-4.ensures.value c.in-Ok.ensures.counted in
    part_check workers held.unread.items (items held.texts.items) standing
    (record { part = part; texts = texts; unread = c.args.unread; refused = Some why; told = told; build = build; spelled = c.of-spelled.result; counted = c.result-1.given.0 }) c.requires.unread run c.in-Ok.ensures.verdicts numbers.items why refused.located.items refl all reason located
    c.in_ok-part.ensures.ascending members same finished counted
