-- The text of a run with this number of workers, with or without a journal.
use Rattle.std.specs.Prelude.{◌≡◌, ℕ, Bool, false, true, List, ◌++◌}
use Rattle.hm_store.specs.Builds.{Build}
use Rattle.hm_build_output.specs.Checks.{IsCheckRun}
use Rattle.hm_build_reports.specs.Journals.{MayEnd, journal_text}
use Rattle.hm_run_sources.specs.declared.status.Status.{Status}
use Rattle.hm_run_sources.specs.declared.status.Status.TheVariants.{Good, Faulty, Refused}

-- the text is the report, followed by the journal's text if there is one
abbrev pub Follows : Bool → ℕ → List (List ℕ) → List ℕ → List ℕ → Type 0
Follows false workers sources report text = text ≡ report
Follows true workers sources report text = (b : Build) × MayEnd sources workers b × (text ≡ report ++ journal_text b)

-- a refused set has no journal
abbrev pub IsWritten : Bool → ℕ → List (List ℕ) → Status → List ℕ → List ℕ → Type 0
IsWritten journal workers sources Good report text = Follows journal workers sources report text
IsWritten journal workers sources Faulty report text = Follows journal workers sources report text
IsWritten journal workers sources Refused report text = text ≡ report

-- the status and the text of a run on these sources with this number of workers: those of the check. If `journal` holds and the set isn't refused, the
-- journal follows the report
pub record IsRun (workers : ℕ) (journal : Bool) (sources : List (List ℕ)) (status : Status) (text : List ℕ) : Type 0 where
  pub report : List ℕ
  pub checked : IsCheckRun sources status report
  pub written : IsWritten journal workers sources status report text
