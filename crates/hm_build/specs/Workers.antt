-- The data of the workers of a build, and why workers end early. No public clause names these.
use Rattle.std.specs.Prelude.{◌≡◌, ◌≤◌, ◌<◌, ℕ, ◌+◌, List, length, slice_index_or}
use Rattle.hm_syntax.specs.declared.ast.Module.{Module}
use Rattle.hm_verdicts.specs.Sets.{IsLawfulSet}
use Rattle.hm_store.specs.declared.object.Entry.{Entry}
use Rattle.hm_store_journal.specs.Entries.{by}
use Rattle.hm_store_published.specs.declared.history.Naming as Naming
use Rattle.hm_store_shared.specs.Passes as pass
use Rattle.hm_store_shared.specs.Spending.{calls_in}
use Rattle.hm_store_shared.specs.declared.passes.Pass.{Pass}
use Rattle.hm_build_stages.specs.Rooms.{room_of}
use Rattle.hm_build_stages.specs.declared.faults.BuildFault.{BuildFault}
use Rattle.hm_build_stages.specs.declared.faults.BuildFault.TheVariants as build
use Rattle.hm_run_sources.specs.ModuleCounts.{IsCountedTo}
use Rattle.hm_run_sources.specs.declared.located.SourceModule.{SourceModule}

-- the modules of the build, with their rows of imports, are a lawful set
pub record IsWorkOf (modules : List Module) (plan : List (List ℕ)) (given : List Module) (rows : List (List ℕ)) : Type 0 where
  pub modules_are : given ≡ modules
  pub rows_are : rows ≡ plan
  pub lawful : IsLawfulSet (record { modules = modules; plan = plan })

-- a worker has room for the calls of the claims that it may still make, and for two more. `calls` are those for its claims so far
pub record HasRoom (plan : List (List ℕ)) (room : ℕ) (calls : ℕ) : Type 0 where
  pub left : room_of plan ≤ room + calls
  pub fits : calls + 2 ≤ room_of plan

-- the calls for the claims of worker w among these entries
abbrev pub calls_of : List (List ℕ) → ℕ → List Entry → ℕ
calls_of plan w known = calls_in plan (by w known)

-- a worker whose pass this is has room for its claims
abbrev pub HasRoomIn : {L : Type 0} {J : Naming.Ghosts L} → List (List ℕ) → Pass L J → Type 0
HasRoomIn plan p = HasRoom plan (pass.room_of p) (calls_of plan (pass.worker_of p) (pass.known_of p))

-- this is one of the modules, with the source that the counts give it
pub record IsWorkModule (modules : List Module) (counts : List ℕ) (m : SourceModule) : Type 0 where
  pub within : m.number < length modules
  pub counted : IsCountedTo counts m.number m.source
  pub named : (d : Module) → m.name ≡ (slice_index_or modules m.number d).header.name

-- the faults with which workers may end a build of these modules
abbrev pub IsWorkError : List Module → List ℕ → BuildFault → Type 0
IsWorkError modules counts (build.Refused r) = ⊥
IsWorkError modules counts build.Workers = ⊥
IsWorkError modules counts build.NoWorker = Unit {0}
IsWorkError modules counts build.Memory = Unit {0}
IsWorkError modules counts (build.Exhausted m) = IsWorkModule modules counts m
IsWorkError modules counts build.Mixed = Unit {0}
