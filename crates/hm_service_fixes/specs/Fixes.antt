-- When a change of a source is a fix of a fault, by the verdicts of the set before it and after it.
use Rattle.std.specs.Prelude.{◌≡◌, ◌⊎◌, ℕ, Contains, List, false, true}
use Rattle.hm_names.specs.declared.faults.Fault.{Fault}
use Rattle.hm_service_fixes.specs.Judged.{HasAccepted, HasFaultAt, HasSkippedAt, IsFailedAs, IsSkippedAs, JudgedSet}
use Rattle.hm_service_fixes.specs.Moves.{IsMoved}
use Rattle.hm_service_fixes.specs.Phases.{IsEarlier}
use Rattle.hm_service_fixes.specs.declared.changes.SourceChange.{SourceChange}
use Rattle.hm_service_fixes.specs.declared.moves.Replacement.{Replacement}
use Rattle.hm_verdicts.specs.Reports.{kind_word}

-- g is the fault f, at the place where that of f is after the change
pub record IsSameFault (r : Replacement) (f g : Fault) : Type 0 where
  pub kind : g.kind ≡ f.kind
  pub name : g.name ≡ f.name
  pub moved : IsMoved r f.place g.place

-- g is the fault that is to go: it has its kind, and is at its place after the change
pub record IsStill (c : SourceChange) (g : Fault) : Type 0 where
  pub kind : kind_word g.kind ≡ c.kind.now
  pub moved : IsMoved c.replaced c.place g.place

-- g is no new fault of the module with the name x. The module had it, or faults of an earlier phase, or it was skipped. Or its source wasn't checked
pub data IsKnown (before : JudgedSet) (c : SourceChange) (x : List ℕ) (g : Fault) : Type 0 where
  unchecked : before.checked ≡ false → IsKnown before c x g
  skipped : {i : ℕ} → IsSkippedAs before x i → IsKnown before c x g
  had : {i : ℕ} {found : List Fault} {f : Fault} → IsFailedAs before x i found → Contains found f → IsSameFault c.replaced f g → IsKnown before c x g
  left_out : {i : ℕ} {found : List Fault} {f : Fault} → IsFailedAs before x i found → Contains found f → IsEarlier f.kind g.kind → IsKnown before c x g

-- a module with the name x was skipped before, or its source wasn't checked
abbrev pub IsSkipKnown : JudgedSet → List ℕ → Type 0
IsSkipKnown before x = (before.checked ≡ false) ⊎ ((i : ℕ) × IsSkippedAs before x i)

-- The source is checked as it is now. The fault is gone, and the modules of the source have no new fault. They aren't skipped, unless they were so before.
-- If the source was checked before, all modules that were accepted are accepted. Otherwise their verdicts were for another text of it
pub record IsFix (before after : JudgedSet) (c : SourceChange) : Type 0 where
  pub checked : after.checked ≡ true
  pub gone : (x : List ℕ) (g : Fault) → HasFaultAt after c.source x g → ¬ (IsStill c g)
  pub accepted : before.checked ≡ true → (x : List ℕ) → HasAccepted before x → HasAccepted after x
  pub known : (x : List ℕ) (g : Fault) → HasFaultAt after c.source x g → IsKnown before c x g
  pub skips : (x : List ℕ) → HasSkippedAt after c.source x → IsSkipKnown before x
