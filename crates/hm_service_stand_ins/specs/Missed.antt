-- The diagnostics of a second check that are shown: what it says of modules that the first check has missed.
use Rattle.std.specs.Prelude.{◌≡◌, ◌⊎◌, ℕ, Contains, List, [], Option, Some, option_map, slice_get, string_bytes}
use Rattle.std.specs.List.{Any}
use Rattle.hm_service_messages.specs.Choices.{AreChosen}
use Rattle.hm_service_messages.specs.declared.diagnostic.Diagnostic.{Diagnostic}
use Rattle.hm_service_sources.specs.declared.held.HeldSource.{HeldSource}
use Rattle.hm_service_stand_ins.specs.Findings.{Findings}
use Rattle.hm_service_stand_ins.specs.StandIns.{IsSkip}

-- the source has its text of now in both sets
abbrev pub text_at : List HeldSource → ℕ → Option (List ℕ)
text_at held n = option_map (λ h. h.text.items) (slice_get held n)

abbrev pub HasTextOfNow : List HeldSource → List HeldSource → ℕ → Type 0
HasTextOfNow held set n = (text : List ℕ) × ((text_at held n ≡ Some text) × (text_at set n ≡ Some text))

-- two diagnostics are about one module
abbrev pub IsOfModule : Diagnostic → Diagnostic → Type 0
IsOfModule d e = option_map string_bytes e.«module» ≡ option_map string_bytes d.«module»

-- note e at source n says that the module which diagnostic d is about is skipped
abbrev pub IsSkipOf : ℕ → Diagnostic → Diagnostic → Type 0
IsSkipOf n d e = (e.source ≡ n) × (IsSkip e × IsOfModule d e)

-- the first check has skipped the module which the diagnostic is about
abbrev pub IsOfSkipped : Findings → ℕ → Diagnostic → Type 0
IsOfSkipped f n d = Any (IsSkipOf n d) f.told

-- the diagnostic is about a module of source n that the first check has skipped or left out, and isn't that the second check skips it too
pub record IsMissed (f : Findings) (n : ℕ) (d : Diagnostic) : Type 0 where
  pub at : d.source ≡ n
  pub checked : ¬ (IsSkip d)
  pub missed : ¬ (Contains f.part n) ⊎ IsOfSkipped f n d

-- the diagnostics of the second check that are shown at source n: those about missed modules. There are none if another text than that of now was checked
pub data AreMissedAt (f : Findings) (held set : List HeldSource) (told : List Diagnostic) (n : ℕ) (found : List Diagnostic) : Type 0 where
  of_now : HasTextOfNow held set n → AreChosen (IsMissed f n) told found → AreMissedAt f held set told n found
  older : ¬ (HasTextOfNow held set n) → found ≡ [] → AreMissedAt f held set told n found
