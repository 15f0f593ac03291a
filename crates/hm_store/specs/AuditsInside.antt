-- The state of an audit while it reads a journal and records. No public clause names these.
use Rattle.std.specs.Prelude.{◌≡◌, ℕ, ◌+◌, ◌<◌, ◌≤◌, Bool, false, cond, List, length, take, slice_index_or}
use Rattle.hm_store.specs.Objects.{State, state_after}
use Rattle.hm_store.specs.Builds.{Build}
use Rattle.hm_store.specs.declared.store.audit.replay.Replay.{Replay}

-- the state after the replayed entries
abbrev pub played : Replay → State
played r = record { statuses = r.statuses.items; stopped = r.stopped }

-- the state after the first entries of the journal
pub record IsReplay (b : Build) (r : Replay) : Type 0 where
  pub within : r.at ≤ length b.journal
  pub state : played r ≡ state_after b.given (take r.at b.journal)
  pub search_of : length r.search ≡ length b.given.imports

-- 1 at an entry with a mark
abbrev pub mark : List Bool → ℕ → ℕ
mark marks i = cond (slice_index_or marks i false) 1 0

-- the marks after calls, if they wrote entry i so many times
pub record Marks (old : List Bool) (wrote : ℕ → ℕ) (new : List Bool) : Type 0 where
  pub len : length new ≡ length old
  pub each : (i : ℕ) → i < length old → mark new i ≡ mark old i + wrote i

-- an entry would get two marks
pub record IsTwice (marks : List Bool) (wrote : ℕ → ℕ) : Type 0 where
  pub entry : ℕ
  pub within : entry < length marks
  pub more : 1 < mark marks entry + wrote entry
