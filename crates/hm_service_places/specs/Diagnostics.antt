-- The diagnostics of a source of a held set.
use Rattle.std.specs.Prelude.{◌≡◌, ℕ, Bool, true, false, List, [], ◌++◌, Option, None, Some}
use Rattle.hm_service_sources.specs.declared.held.HeldSource.{HeldSource}
use Rattle.hm_service_messages.specs.Choices.{AreChosen}
use Rattle.hm_service_messages.specs.declared.diagnostic.Diagnostic.{Diagnostic}
use Rattle.hm_service_messages.specs.declared.diagnostic.Told.{Told}
use Rattle.hm_service_places.specs.declared.checked.Checked.{Checked}

-- the diagnostics of a run, if there was one
abbrev pub in_run : Option Told → List Diagnostic
in_run None = []
in_run (Some told) = told.diagnostics.items

-- those of the run of all sources, and after them those of the run of the sources that can be checked
pub record AreFoundIn (c : Checked) (source : ℕ) (found : List Diagnostic) : Type 0 where
  pub first : List Diagnostic
  pub later : List Diagnostic
  pub refused : AreChosen (λ d. d.source ≡ source) (in_run c.refused) first
  pub told : AreChosen (λ d. d.source ≡ source) c.told.diagnostics.items later
  pub whole : found ≡ first ++ later

-- by whether the source can be read: if not, those of the run of such sources
abbrev pub AreDiagnosticsAs : Bool → Checked → ℕ → List Diagnostic → Type 0
AreDiagnosticsAs true c source found = AreFoundIn c source found
AreDiagnosticsAs false c source found = AreChosen (λ d. d.source ≡ source) (in_run c.unread) found

-- the diagnostics of the source, if there is one
abbrev pub AreDiagnosticsAt : Option HeldSource → Checked → ℕ → List Diagnostic → Type 0
AreDiagnosticsAt None c source found = found ≡ []
AreDiagnosticsAt (Some h) c source found = AreDiagnosticsAs h.is_read c source found
