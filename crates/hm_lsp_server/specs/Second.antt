-- The second check of a server's texts, and what is shown of both checks.
use Rattle.std.specs.Prelude.{◌≡◌, ◌++◌, ℕ, List, [], Option, None, Some, slice_get}
use Rattle.hm_service.specs.Checks.{IsHeldCheck}
use Rattle.hm_service_messages.specs.declared.diagnostic.Diagnostic.{Diagnostic}
use Rattle.hm_service_places.specs.Diagnostics.{AreDiagnosticsAt, in_run}
use Rattle.hm_service_places.specs.declared.checked.Checked.{Checked}
use Rattle.hm_service_sources.specs.declared.held.HeldSource.{HeldSource}
use Rattle.hm_service_stand_ins.specs.Findings.{Findings}
use Rattle.hm_service_stand_ins.specs.GoodTexts.{AreGoodAfter}
use Rattle.hm_service_stand_ins.specs.Missed.{AreMissedAt}
use Rattle.hm_service_stand_ins.specs.StandIns.{IsSecondSet}
use Rattle.hm_lsp_server.specs.declared.second.SecondCheck.{SecondCheck}

-- the number of workers of each check
abbrev pub workers : ℕ
workers = 4

-- what a check says of the sources
abbrev pub findings_in : Checked → Findings
findings_in c = record { part = c.part.items; refused = in_run c.refused; told = c.told.diagnostics.items }

-- the last good texts after the check of these texts, if there is one
abbrev pub AreGoodSince : List HeldSource → Option Checked → List (Option (List ℕ)) → List (Option (List ℕ)) → Type 0
AreGoodSince held None before after = after ≡ before
AreGoodSince held (Some c) before after = AreGoodAfter (findings_in c) held before after

-- the second check after a first one, or none. It is the check of a held set like any other
abbrev pub IsSecondCheck : List HeldSource → Checked → List (Option (List ℕ)) → Option SecondCheck → Type 0
IsSecondCheck held c good None = IsSecondSet (findings_in c) held good None
IsSecondCheck held c good (Some s) = IsSecondSet (findings_in c) held good (Some s.set.items) × IsHeldCheck workers s.set.items s.checked

-- the diagnostics of the second check that are shown at source number n, if there is a second check
abbrev pub AreSecondAt : List HeldSource → Checked → Option SecondCheck → ℕ → List Diagnostic → Type 0
AreSecondAt held c None n found = found ≡ []
AreSecondAt held c (Some s) n found = AreMissedAt (findings_in c) held s.set.items s.checked.told.diagnostics.items n found

-- the diagnostics that are shown at source number n: all of the first check, and after them those of the second
pub record AreShownAt (held : List HeldSource) (c : Checked) (second : Option SecondCheck) (n : ℕ) (found : List Diagnostic) : Type 0 where
  pub first : List Diagnostic
  pub later : List Diagnostic
  pub of_first : AreDiagnosticsAt (slice_get held n) c n first
  pub of_second : AreSecondAt held c second n later
  pub whole : found ≡ first ++ later
