-- The text of a build, as the functions of this crate return it.
use Rattle.std.specs.Prelude.{◌≡◌, ℕ, Bool, false, true, List, ◌++◌}
use Rattle.hm_verdicts.specs.Reports.{IsReport}
use Rattle.hm_store.specs.Builds.{Build, set_of}
use Rattle.hm_store.specs.Settlements.{settlement}
use Rattle.hm_build_reports.specs.Journals.{journal_text}

abbrev pub IsFollowedBy : Build → Bool → List ℕ → List ℕ → Type 0
IsFollowedBy b false report text = text ≡ report
IsFollowedBy b true report text = text ≡ report ++ journal_text b

-- the report of a build, followed by its journal if `journal` holds
pub record HasReport (b : Build) (journal : Bool) (text : List ℕ) : Type 0 where
  pub report : List ℕ
  pub reported : IsReport (set_of b) (settlement b) report
  pub followed : IsFollowedBy b journal report text
