-- The check of a held set, from the results of its steps.
use Rattle.std.proofs.Common.{◌≡◌, ℕ, ◌<◌, ◌↔◌, List, Option, Some, None, Vec, Global, Contains, length, map, subst, sym, ◌∙◌}
use Rattle.std.specs.List.Sorted.{IsStrictlyIncreasing}
use Rattle.hm_build.specs.Headline.{HasVerdicts}
use Rattle.hm_build_reports.specs.FinishedBuilds.{IsFinished}
use Rattle.hm_run_sources.proofs.ModuleCounts.{counts_sum}
use Rattle.hm_run_sources.specs.ModuleCounts.{AreCountedModules, AreOrigins}
use Rattle.hm_run_sources.specs.Origins.{AreLocated}
use Rattle.hm_run_sources.specs.declared.located.Located.{Located}
use Rattle.hm_service_messages.specs.declared.diagnostic.Told.{Told}
use Rattle.hm_service_sources.proofs.Numbers.{texts_at_all}
use Rattle.hm_service_sources.proofs.Parts.{some, whole}
use Rattle.hm_service_sources.specs.HeldSets.{AreAll, texts_at}
use Rattle.hm_service_sources.specs.LeftOut.{IsLeftOut}
use Rattle.hm_store.specs.Builds.{IsLegal}
use Rattle.hm_store_shared.specs.Gathered.{records_in}
use Rattle.hm_service.specs.Checks.{AreRefusedTold, AreUnreadTold, IsCheckOf}
use Rattle.hm_service_runs.specs.Runs.{IsRunTold}
use Rattle.hm_service_places.specs.declared.checked.Checked.{Checked}

module _ (workers : ℕ) (unread : List ℕ) (now standing : List (List ℕ)) (c : Checked) (unread_told : AreUnreadTold workers unread now c.unread) (told : IsRunTold workers c.part.items (map (λ (s : Vec ℕ Global). s.items) c.texts.items) c.told) (verdicts : HasVerdicts c.build.store) where
  -- no source is left out
  pub whole_check : (origins : List ℕ) → c.refused ≡ None → AreAll (length standing) c.part.items → map (λ (s : Vec ℕ Global). s.items) c.texts.items ≡ standing → IsFinished standing workers c.build.store (records_in c.build.records)
      → AreCountedModules standing c.build.store.modules c.build.counts.items → IsLegal c.build.store → AreOrigins c.build.counts.items origins → IsCheckOf workers unread now standing c
  whole_check origins none all same finished counted legal are = record {
    unread_told = unread_told;
    refused_told = subst (λ (o : Option Told). AreRefusedTold workers standing c.part.items o) (sym none) all;
    checkable = whole standing c.build.store.modules c.build.counts.items origins c.part.items counted are (are.as_many ∙ sym (counts_sum standing c.build.store.modules c.build.counts.items counted)) legal.lawful.lawful all;
    texts_are = same ∙ sym (texts_at_all standing c.part.items all);
    told = told;
    finished = subst (λ (l : List (List ℕ)). IsFinished l workers c.build.store (records_in c.build.records)) (sym same) finished;
    verdicts = verdicts;
    counted = subst (λ (l : List (List ℕ)). AreCountedModules l c.build.store.modules c.build.counts.items) (sym same) counted;
  }

  -- some are
  pub part_check : (numbers : List ℕ) (why : Told) (located : List Located) → c.refused ≡ Some why → AreAll (length standing) numbers → IsRunTold workers numbers standing why → AreLocated standing located → IsStrictlyIncreasing c.part.items
      → ((s : ℕ) → Contains c.part.items s ↔ ((s < length standing) × ¬ (IsLeftOut located s))) → map (λ (s : Vec ℕ Global). s.items) c.texts.items ≡ texts_at standing c.part.items
      → IsFinished (map (λ (s : Vec ℕ Global). s.items) c.texts.items) workers c.build.store (records_in c.build.records) → AreCountedModules (map (λ (s : Vec ℕ Global). s.items) c.texts.items) c.build.store.modules c.build.counts.items
      → IsCheckOf workers unread now standing c
  part_check numbers why located is all refused are ascending members same finished counted = record {
    unread_told = unread_told;
    refused_told = subst (λ (o : Option Told). AreRefusedTold workers standing c.part.items o) (sym is) (numbers, (all, refused));
    checkable = some standing located c.part.items are ascending members;
    texts_are = same;
    told = told;
    finished = finished;
    verdicts = verdicts;
    counted = counted;
  }
