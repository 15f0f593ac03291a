-- The steps of making a plan. No public clause names these.
use Rattle.std.specs.Prelude.{ℕ, ◌≡◌, ◌≢◌, ◌<◌, ◌⊎◌, ◌↔◌, List, [], length, slice_index, slice_index_or, Contains}
use Rattle.std.specs.List.Sorted.{IsStrictlyIncreasing}
use Rattle.hm_graph.specs.declared.faults.PlanFault.{PlanFault}
use Rattle.hm_graph.specs.declared.faults.PlanFault.TheVariants.{Duplicate, Missing, Memory}
use Rattle.hm_graph.specs.Imports.{Modules, IsMissing}
use Rattle.hm_graph.specs.Importers.{IsImporterList}
use Rattle.hm_graph.specs.Refusal.{IsFirstTaken, IsFirstMissing}

-- the fault that a step may return in place of its result
abbrev pub IsDuplicateFault : Modules → PlanFault → Type 0
IsDuplicateFault modules (Duplicate m) = IsFirstTaken modules m
IsDuplicateFault modules Memory = Unit {0}
IsDuplicateFault modules _ = ⊥

abbrev pub IsRowFault : Modules → ℕ → PlanFault → Type 0
IsRowFault modules m (Missing k i) = (k ≡ m) × IsMissing modules m i × ((j : ℕ) → j < i → ¬ IsMissing modules m j)
IsRowFault modules m Memory = Unit {0}
IsRowFault modules m _ = ⊥

abbrev pub IsMissingFault : Modules → PlanFault → Type 0
IsMissingFault modules (Missing m i) = IsFirstMissing modules m i
IsMissingFault modules Memory = Unit {0}
IsMissingFault modules _ = ⊥

pub record AreImporters (plan importers : List (List ℕ)) : Type 0 where
  pub len : length importers ≡ length plan
  pub rows : (m : ℕ) → IsImporterList plan m (slice_index_or importers m [])

-- no number occurs twice
abbrev pub IsOnce : List ℕ → Type 0
IsOnce row = (p q : ℕ) → p < q → q < length row → slice_index row p ≢ slice_index row q

abbrev pub AllAscend : List (List ℕ) → Type 0
AllAscend importers = (m : ℕ) → IsStrictlyIncreasing (slice_index_or importers m [])

abbrev pub AllBelow : List (List ℕ) → ℕ → Type 0
AllBelow importers n = (m k : ℕ) → Contains (slice_index_or importers m []) k → k < n

-- the number was added to each list that `row` names
pub record NotesRow (old new : List (List ℕ)) (row : List ℕ) (number : ℕ) : Type 0 where
  pub len : length new ≡ length old
  pub members : (m k : ℕ) → Contains (slice_index_or new m []) k ↔ (Contains (slice_index_or old m []) k ⊎ ((k ≡ number) × Contains row m))
  pub ascending : AllAscend new
