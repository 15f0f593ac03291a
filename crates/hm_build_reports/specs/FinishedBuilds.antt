-- Finished builds of sources.
use Rattle.std.specs.Prelude.{◌≡◌, ◌<◌, ℕ, List, All, false, length, slice_index_or}
use Rattle.hm_store.specs.Agreement.{Agree}
use Rattle.hm_store.specs.Builds.{Build, IsAllSettled, IsLegal, state_of}
use Rattle.hm_store.specs.declared.record.Record.{Record}
use Rattle.hm_build_reports.specs.Rounds.{IsInRounds}
use Rattle.hm_run_sources.specs.SourceModules.{AreModulesOf}

-- a record for each worker, in the order of their numbers, from 0
pub record AreNumbered (workers : ℕ) (records : List Record) : Type 0 where
  pub len : length records ≡ workers
  pub each : (k : ℕ) (d : Record) → k < workers → (slice_index_or records k d).worker ≡ k

-- the modules are those of the sources, the journal is legal and has no stop, each module is settled, the records agree with the journal, and each
-- worker that was started made its calls in rounds
pub record IsFinished (sources : List (List ℕ)) (workers : ℕ) (b : Build) (records : List Record) : Type 0 where
  pub read : AreModulesOf sources b.modules
  pub legal : IsLegal b
  pub running : (state_of b).stopped ≡ false
  pub settled : IsAllSettled b
  pub agree : Agree b records
  pub numbered : AreNumbered workers records
  pub rounds : All (IsInRounds b.given.imports) records

-- what a build's store and records have after its workers, if no worker failed
pub record HasEnded (workers : ℕ) (b : Build) (records : List Record) : Type 0 where
  pub running : (state_of b).stopped ≡ false
  pub settled : IsAllSettled b
  pub agree : Agree b records
  pub numbered : AreNumbered workers records
  pub rounds : All (IsInRounds b.given.imports) records
