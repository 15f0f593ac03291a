-- The answer of a finished build, and that of a refused set, are those of a run.
use Rattle.std.proofs.Common.{◌≡◌, ℕ, List, [], ◌∷◌, refl, sym, subst}
use Rattle.hm_build.specs.Headline.{HasVerdicts}
use Rattle.hm_build_place_texts.specs.Facts.{Item}
use Rattle.hm_build_place_texts.specs.Formats.{refusal_in}
use Rattle.hm_build_places.specs.Answers.{IsPlaceAnswer, status_of}
use Rattle.hm_build_places.specs.Views.{known_in}
use Rattle.hm_build_reports.specs.FinishedBuilds.{IsFinished}
use Rattle.hm_run_sources.proofs.ModuleCounts.{have_origins}
use Rattle.hm_run_sources.specs.ModuleCounts.{AreCountedModules, AreOrigins}
use Rattle.hm_run_sources.specs.Refusals.{Refusal, refusal_text}
use Rattle.hm_run_sources.specs.Runs.{IsRefusalOf}
use Rattle.hm_run_sources.specs.declared.status.Status.{Status}
use Rattle.hm_run_sources.specs.declared.status.Status.TheVariants.{Good, Faulty, Refused}
use Rattle.hm_store.specs.Builds.{Build, set_of}
use Rattle.hm_store.specs.Settlements.{settlement}
use Rattle.hm_store.specs.declared.record.Record.{Record}
use Rattle.hm_build_place_runs.specs.Runs.{AskedAt, IsAnswered, IsPlaceRun}

never : (items : List Item) → Refused ≡ status_of items → ⊥
never [] e = absurd (cc)
never (i ∷ is) e = absurd (cc)

module _ (names sources : List (List ℕ)) (b : Build) (records : List Record) (workers : ℕ) (counts : List ℕ) (asked : AskedAt) (text : List ℕ) (f : IsFinished sources workers b records) (v : HasVerdicts b) (counted : AreCountedModules sources b.modules counts) where
  whole : (status : Status) (origins : List ℕ) → AreOrigins counts origins → IsPlaceAnswer (known_in b names sources origins) asked.format asked.source asked.line asked.column status text → IsAnswered names sources asked status text
  whole status origins o a = record {
    set = set_of b;
    settled = settlement b;
    origins = origins;
    judged = record { read = f.read; verdicts = v.each; sourced = have_origins sources b.modules counts origins counted o };
    answered = a;
  }

  pub answered : (status : Status) (origins : List ℕ) → AreOrigins counts origins → IsPlaceAnswer (known_in b names sources origins) asked.format asked.source asked.line asked.column status text → IsPlaceRun names sources asked status text
  answered Good origins o a = whole Good origins o a
  answered Faulty origins o a = whole Faulty origins o a
  answered Refused origins o a = absurd (never a.items a.status_is)

pub refused : (names sources : List (List ℕ)) (asked : AskedAt) (refusal : Refusal) (status : Status) (text : List ℕ) → IsRefusalOf sources refusal → status ≡ Refused → text ≡ refusal_in asked.format (refusal_text refusal) → IsPlaceRun names sources asked status text
refused names sources asked refusal status text because is says =
    subst (λ s. IsPlaceRun names sources asked s text) (sym is) (record { told = refusal_text refusal; refused = record { refusal = refusal; because = because; says = refl }; written = says })
