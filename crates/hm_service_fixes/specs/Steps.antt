-- The steps by which a change is decided. No public clause names these.
use Rattle.std.specs.Prelude.{◌≡◌, ◌⊎◌, ℕ, ◌<◌, ◌≤◌, Contains, List, Some, get_or, slice_get, true}
use Rattle.hm_names.specs.declared.faults.Fault.{Fault}
use Rattle.hm_service_fixes.specs.Fixes.{IsKnown, IsSameFault, IsSkipKnown, IsStill}
use Rattle.hm_service_fixes.specs.Judged.{HasAccepted, HasFaultAt, HasSkippedAt, IsFailedAs, IsNamed, IsSkippedAs, JudgedSet}
use Rattle.hm_service_fixes.specs.Phases.{IsEarlier}
use Rattle.hm_service_fixes.specs.declared.changes.SourceChange.{SourceChange}
use Rattle.hm_service_fixes.specs.declared.moves.Replacement.{Replacement}
use Rattle.hm_verdicts.specs.Reports.{name_of_module}
use Rattle.hm_verdicts.specs.Verdicts.{Failed, IsAccepted, Skipped}

-- a number from the first up to the second has the property
abbrev pub HasBetween : (ℕ → Type 0) → ℕ → ℕ → Type 0
HasBetween P from to = (i : ℕ) × ((from ≤ i) × ((i < to) × P i))

-- module number i has the name x and is accepted
abbrev pub IsAcceptedAs : JudgedSet → List ℕ → ℕ → Type 0
IsAcceptedAs j x i = IsNamed j x i × IsAccepted j.set j.status i

-- if module number i is accepted, one with its name is accepted after the change
abbrev pub IsKeptAt : JudgedSet → JudgedSet → ℕ → Type 0
IsKeptAt before after i = IsAccepted before.set before.status i → HasAccepted after (name_of_module before.set i)

-- all modules that were accepted are accepted after the change, if the source was checked before
abbrev pub AreKept : JudgedSet → JudgedSet → Type 0
AreKept before after = before.checked ≡ true → (x : List ℕ) → HasAccepted before x → HasAccepted after x

-- the fault g is f after the change, or of a later phase
abbrev pub IsExplainedBy : Replacement → Fault → Fault → Type 0
IsExplainedBy r g f = IsSameFault r f g ⊎ IsEarlier f.kind g.kind

-- fault number i of a list explains the fault
abbrev pub IsExplainedAt : Replacement → Fault → List Fault → ℕ → Type 0
IsExplainedAt r g found i = (d : Fault) → IsExplainedBy r g (get_or found i d)

-- one of a list does
abbrev pub IsExplainedIn : Replacement → Fault → List Fault → Type 0
IsExplainedIn r g found = (f : Fault) × (Contains found f × IsExplainedBy r g f)

-- the module with this number explains the fault
abbrev pub IsKnownFrom : JudgedSet → SourceChange → List ℕ → Fault → ℕ → Type 0
IsKnownFrom before c x g i = IsSkippedAs before x i ⊎ ((found : List Fault) × (IsFailedAs before x i found × IsExplainedIn c.replaced g found))

-- the fault isn't the one that is to go, and is no new one
abbrev pub IsFine : JudgedSet → SourceChange → List ℕ → Fault → Type 0
IsFine before c x g = ¬ (IsStill c g) × IsKnown before c x g

-- all faults of module number i are fine, if it is in the source
abbrev pub IsFineAt : JudgedSet → JudgedSet → SourceChange → ℕ → Type 0
IsFineAt before after c i =
    slice_get after.sources i ≡ Some c.source → (found : List Fault) → after.status i ≡ Failed found → (g : Fault) → Contains found g → IsFine before c (name_of_module after.set i) g

abbrev pub AreAllFine : JudgedSet → JudgedSet → SourceChange → Type 0
AreAllFine before after c = (x : List ℕ) (g : Fault) → HasFaultAt after c.source x g → IsFine before c x g

-- if module number i is in source number n and is skipped, it was so before
abbrev pub IsSkipFineAt : JudgedSet → JudgedSet → ℕ → ℕ → Type 0
IsSkipFineAt before after n i = slice_get after.sources i ≡ Some n → after.status i ≡ Skipped → IsSkipKnown before (name_of_module after.set i)

abbrev pub AreSkipsKnown : JudgedSet → JudgedSet → ℕ → Type 0
AreSkipsKnown before after n = (x : List ℕ) → HasSkippedAt after n x → IsSkipKnown before x
