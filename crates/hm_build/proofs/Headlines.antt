-- A finished build has the verdicts of the declarative rules.
use Rattle.std.proofs.Common.{◌≡◌, ◌↔◌, ◌<◌, Bool, true, false, None, Result, Ok, Err, IfOk, List, ℕ, length, refl, sym, ap, ◌∙◌}
use Rattle.std.proofs.lemmas.Bool.{false≢true}
use Rattle.hm_types.specs.Interfaces.{Exports as Interface}
use Rattle.hm_verdicts.specs.Laws.{AcceptedAreGood, SettledIsVerdict, AcceptedHavePrincipal}
use Rattle.hm_verdicts.specs.Verdicts as verdicts
use Rattle.hm_store.specs.Builds.{Build, AgreesWith, IsAllSettled, IsLegal, kept_at, set_of, state_of}
use Rattle.hm_store.specs.Objects.{status_at}
use Rattle.hm_store.specs.Settlements.{SettledBuildIsSettled, settlement, settlement_by, settlement_with}
use Rattle.hm_store.specs.declared.object.Status.{Status}
use Rattle.hm_store.specs.declared.object.Status.TheVariants.{Waiting, Claimed, Published, Failed, Skipped}
use Rattle.hm_build_reports.specs.FinishedBuilds.{IsFinished}
use Rattle.hm_store_shared.specs.Gathered.{records_in}
use Rattle.hm_build.specs.Headline.{HasVerdicts}
use Rattle.hm_build_stages.specs.declared.finished_build.Finished.{Finished}
use Rattle.hm_build_stages.specs.declared.faults.BuildFault.{BuildFault}

has_interface : verdicts.Status → Bool
has_interface (verdicts.Published f) = true
has_interface (verdicts.Failed found) = false
has_interface verdicts.Skipped = false

module _ (b : Build) (i : ℕ) where
  none_kept : (s : Status) (f : Interface) → kept_at b.kept i ≡ None → settlement b i ≡ verdicts.Published f → s ≡ Published
  unfolding has_interface
  none_kept s f none e = absurd (false≢true (ap has_interface (sym (ap settlement_with none) ∙ e)))

  -- a module was settled with an interface exactly where its status is that it is published
  published_so : (s : Status) → AgreesWith s (kept_at b.kept i) → s ≡ Published → (f : Interface) × (settlement b i ≡ verdicts.Published f)
  published_so Waiting a e = let g : Waiting ≡ Published = e in absurd (cc)
  published_so (Claimed w) a e = let g : Claimed w ≡ Published = e in absurd (cc)
  published_so Published a e = let r = a.2 in (r.0, ap settlement_with a.1 ∙ ap settlement_by r.1)
  published_so Failed a e = let g : Failed ≡ Published = e in absurd (cc)
  published_so Skipped a e = let g : Skipped ≡ Published = e in absurd (cc)

  so_published : (s : Status) → AgreesWith s (kept_at b.kept i) → (f : Interface) → settlement b i ≡ verdicts.Published f → s ≡ Published
  unfolding has_interface
  so_published Waiting a f e = none_kept Waiting f a e
  so_published (Claimed w) a f e = none_kept (Claimed w) f a e
  so_published Published a f e = refl
  so_published Failed a f e = let r = a.2 in absurd (false≢true (ap has_interface (sym (ap settlement_with a.1 ∙ ap settlement_by r.1) ∙ e)))
  so_published Skipped a f e = none_kept Skipped f a e

  accepted_status : IsLegal b → i < length b.modules → verdicts.IsAccepted (set_of b) (settlement b) i ↔ (status_at (state_of b).statuses i ≡ Published)
  accepted_status h l = (
    (λ a. so_published (status_at (state_of b).statuses i) (h.agrees i) a.1.0 a.1.1),
    (λ e. (l, published_so (status_at (state_of b).statuses i) (h.agrees i) e)),
  )

module _ (settled : SettledBuildIsSettled) (judged : SettledIsVerdict) (accepted : AcceptedAreGood) (principal : AcceptedHavePrincipal) where
  pub verdicts_of : (b : Build) → IsLegal b → IsAllSettled b → HasVerdicts b
  verdicts_of b legal end =
      let all = settled b legal end in
      record {
        exactly = λ i l. let good = accepted (set_of b) (settlement b) legal.lawful all i l in let status = accepted_status b i legal l in ((λ e. good.0 (status.1 e)), (λ g. status.0 (good.1 g)));
        each = judged (set_of b) (settlement b) legal.lawful all;
        together = principal (set_of b) (settlement b) legal.lawful all;
      }

  -- a build of modules that are read from sources, whatever the sources are
  pub finished_have_verdicts : (sources : List (List ℕ)) (workers : ℕ) (read : List (List ℕ) → Type 0) (r : Result Finished BuildFault) → IfOk r (λ f. (s : List (List ℕ)) → read s → IsFinished s workers f.store (records_in f.records)) → read sources → IfOk r (λ f. HasVerdicts f.store)
  finished_have_verdicts sources workers read (Ok f) h a = let done = h sources a in verdicts_of f.store done.legal done.settled
  finished_have_verdicts sources workers read (Err e) h a = tt
