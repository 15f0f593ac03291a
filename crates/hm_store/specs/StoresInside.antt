-- The fields of a store. No public clause names these.
use Rattle.std.specs.Prelude.{◌≡◌, ℕ, ◌+◌, ◌<◌, ◌≤◌, ◌^◌, Bool, cond, List, length, map, sum_by}
use Rattle.std.specs.Vec.{vec_capacity}
use Rattle.std.specs.Arc.{arc_value}
use Rattle.hm_store.specs.Builds.{Build, IsLegal, state_of}
use Rattle.hm_store.specs.Reaching.{dependents_in}
use Rattle.hm_store.specs.Readiness.{KeepsReady}
use Rattle.hm_store.specs.declared.object.Status.{Status}
use Rattle.hm_store.specs.declared.object.Status.TheVariants.{Waiting, Claimed, Published, Failed, Skipped}
use Rattle.hm_store.specs.declared.store.Store.TheInside.{Inside}

-- the number of entries that may still come for a module
abbrev pub left_for : Status → ℕ
left_for Waiting = 2
left_for (Claimed w) = 1
left_for Published = 0
left_for Failed = 0
left_for Skipped = 0

abbrev pub left_in : List Status → ℕ
left_in ss = sum_by left_for ss

-- a legal build, with the state after its journal, and with room for the entries that may still come
pub record Holds (b : Build) (ss : List Status) (stopped : Bool) (room : ℕ) : Type 0 where
  pub legal : IsLegal b
  pub state : state_of b ≡ record { statuses = ss; stopped = stopped }
  pub space : (length b.journal + left_in ss) + cond stopped 0 1 ≤ room
  pub few : room < 2 ^ 62

abbrev pub build : Inside → Build
build s = record { modules = map arc_value s.modules.items; given = record { imports = s.plan; dependents = dependents_in s.plan }; journal = s.journal.items; kept = s.outcomes.items }

-- the fields have a legal build, and the counts and the ready modules match its statuses
pub record IsKept (s : Inside) : Type 0 where
  pub holds : Holds (build s) s.statuses.items s.stopped (vec_capacity s.journal)
  pub search_of : length s.search ≡ length s.plan
  pub ready : KeepsReady (build s).given s.statuses.items s.open_imports.items s.ready s.claimed
