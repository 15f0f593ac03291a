-- What is known of the modules of a checked set, by their names.
use Rattle.std.specs.Prelude.{◌≡◌, ◌<◌, ℕ, Bool, Contains, List, Some, length, slice_get}
use Rattle.hm_names.specs.declared.faults.Fault.{Fault}
use Rattle.hm_verdicts.specs.Reports.{name_of_module}
use Rattle.hm_verdicts.specs.Sets.{ModuleSet}
use Rattle.hm_verdicts.specs.Verdicts.{Failed, IsAccepted, Skipped, Status}

-- the modules, their verdicts, the number of each module's source, and whether the source that is changed is checked as it is now
pub record JudgedSet : Type 0 where
  pub set : ModuleSet
  pub status : ℕ → Status
  pub sources : List ℕ
  pub checked : Bool

-- module number i has the name x
pub record IsNamed (j : JudgedSet) (x : List ℕ) (i : ℕ) : Type 0 where
  pub inside : i < length j.set.modules
  pub named : name_of_module j.set i ≡ x

-- a module with the name x is accepted
pub record HasAccepted (j : JudgedSet) (x : List ℕ) : Type 0 where
  pub number : ℕ
  pub named : IsNamed j x number
  pub accepted : IsAccepted j.set j.status number

-- module number i has the name x and these faults
pub record IsFailedAs (j : JudgedSet) (x : List ℕ) (i : ℕ) (found : List Fault) : Type 0 where
  pub named : IsNamed j x i
  pub failed : j.status i ≡ Failed found

-- module number i has the name x and is skipped
abbrev pub IsSkippedAs : JudgedSet → List ℕ → ℕ → Type 0
IsSkippedAs j x i = IsNamed j x i × (j.status i ≡ Skipped)

-- a module of source number n with the name x has the fault f
pub record HasFaultAt (j : JudgedSet) (n : ℕ) (x : List ℕ) (f : Fault) : Type 0 where
  pub number : ℕ
  pub found : List Fault
  pub failed : IsFailedAs j x number found
  pub own : slice_get j.sources number ≡ Some n
  pub among : Contains found f

-- a module of source number n with the name x is skipped
pub record HasSkippedAt (j : JudgedSet) (n : ℕ) (x : List ℕ) : Type 0 where
  pub number : ℕ
  pub skipped : IsSkippedAs j x number
  pub own : slice_get j.sources number ≡ Some n
