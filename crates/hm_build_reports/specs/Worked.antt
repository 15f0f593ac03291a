-- Worked examples of workers' records.
use Rattle.std.specs.Prelude.{◌≡◌, ℕ, List, [], ◌∷◌, ◌++◌, Option, None, Some}
use Rattle.std.specs.Arc.{arc_value}
use Rattle.std.specs.declared.alloc.Global.{Global}
use Rattle.std.specs.declared.sync.Arc.{Arc}
use Rattle.hm_types.specs.declared.interfaces.Interface.{Interface}
use Rattle.hm_syntax.specs.declared.ast.Module.{Module}
use Rattle.hm_verdicts.specs.Outcomes.{Checked}
use Rattle.hm_run_sources.specs.SourceModules.{AreModulesOf}
use Rattle.hm_store.specs.Builds.{Build, IsLegal, interface_at, with_entry}
use Rattle.hm_store.specs.Worked.{IsRecordOf, begins, begun, call, done, found}
use Rattle.hm_store.specs.declared.object.Entry.TheVariants.{Stop}
use Rattle.hm_store.specs.declared.record.Act.TheVariants.{Publish, Done, Look}
use Rattle.hm_store.specs.declared.record.Record.{Record}
use Rattle.hm_build_reports.specs.FinishedBuilds.{AreNumbered, HasEnded, IsFinished}
use Rattle.hm_build_reports.specs.Rounds.{IsInRounds, IsWorked}

-- module 0 imports module 1
abbrev pub plan : List (List ℕ)
plan = (1 ∷ []) ∷ [] ∷ []

-- rounds: module 1 is claimed and published; module 0 is claimed, its import is looked up and found, and it is published; then nothing is left.
-- A worker without calls is in rounds too. A worker isn't if its last claim is missing, if a look-up found nothing, or if it published without
-- a claim
pub record RoundsRow : Type 0 where
  pub worked : (f : Arc Interface Global) → IsWorked plan (begins ++ (found f ∷ call 3 (Publish 0) ∷ call 4 Done ∷ []))
  pub idle : (r : Record) → r.calls.items ≡ [] → IsInRounds plan r
  pub unfinished : (f : Arc Interface Global) → ¬ (IsWorked plan (begins ++ (found f ∷ call 3 (Publish 0) ∷ [])))
  pub blind : ¬ (IsWorked plan (begins ++ (call 3 (Look 1 None) ∷ call 3 (Publish 0) ∷ call 4 Done ∷ [])))
  pub unclaimed : ¬ (IsWorked plan (call 0 (Publish 1) ∷ call 1 Done ∷ []))

-- the records of two workers, in the order of their numbers
pub record NumberedRow : Type 0 where
  pub both : (r s : Record) → r.worker ≡ 0 → s.worker ≡ 1 → AreNumbered 2 (r ∷ s ∷ [])
  pub exchanged : (r s : Record) → r.worker ≡ 1 → ¬ (AreNumbered 2 (r ∷ s ∷ []))
  pub missing : (r : Record) → ¬ (AreNumbered 2 (r ∷ []))

-- a finished build of two modules, of which 0 imports 1, by one worker: the sources spell the modules, the build is legal, and the worker's calls
-- are in rounds
abbrev pub OneWorkerFinishes : Type 0
OneWorkerFinishes = (sources : List (List ℕ)) (modules : List Module) (kept : List (Option Checked)) (f : Arc Interface Global) (r : Record)
    → AreModulesOf sources modules → IsLegal (done 0 modules kept) → interface_at kept 1 ≡ Some (arc_value f)
    → IsRecordOf 0 (begins ++ (found f ∷ call 3 (Publish 0) ∷ call 4 Done ∷ [])) r → IsFinished sources 1 (done 0 modules kept) (r ∷ [])

-- a build isn't finished while a module is claimed, after a stop, or if a worker has no record. A finished build has ended, and one with a stop hasn't
pub record FinishedRow : Type 0 where
  pub whole : OneWorkerFinishes
  pub claimed : (sources : List (List ℕ)) (workers : ℕ) (a b : Module) (kept : List (Option Checked)) (rs : List Record) → ¬ (IsFinished sources workers (begun (a ∷ b ∷ []) kept) rs)
  pub stopped : (sources : List (List ℕ)) (workers : ℕ) (modules : List Module) (kept : List (Option Checked)) (rs : List Record) → ¬ (IsFinished sources workers (with_entry (done 0 modules kept) (Stop 0)) rs)
  pub missing : (sources : List (List ℕ)) (b : Build) (r : Record) → ¬ (IsFinished sources 2 b (r ∷ []))
  pub ended : (sources : List (List ℕ)) (workers : ℕ) (b : Build) (rs : List Record) → IsFinished sources workers b rs → HasEnded workers b rs
  pub not_ended : (workers : ℕ) (modules : List Module) (kept : List (Option Checked)) (rs : List Record) → ¬ (HasEnded workers (with_entry (done 0 modules kept) (Stop 0)) rs)
