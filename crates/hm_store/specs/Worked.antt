-- Worked examples of builds.
use Rattle.std.specs.Prelude.{◌≡◌, ◌≢◌, ℕ, false, List, [], ◌∷◌, ◌++◌, Option, None, Some, Ok, Err, slice_get, slice_set}
use Rattle.std.specs.Arc.{arc_value}
use Rattle.std.specs.declared.alloc.Global.{Global}
use Rattle.std.specs.declared.sync.Arc.{Arc}
use Rattle.hm_types.specs.Interfaces.{Exports as Interface}
use Rattle.hm_syntax.specs.declared.ast.Module.{Module}
use Rattle.hm_verdicts.specs.Reports.{IsReport}
use Rattle.hm_verdicts.specs.Worked.{three_modules, three_texts}
use Rattle.hm_verdicts.specs.Outcomes.{Checked}
use Rattle.hm_store.specs.Agreement.{Agree}
use Rattle.hm_store.specs.Builds.{Build, IsAllSettled, IsLegal, IsNew, Refuses, Settles, interface_at, set_of, state_of}
use Rattle.hm_store.specs.Objects.{IsAllowed, publications, reply_of, state_after}
use Rattle.hm_store.specs.Plans.{Given, AreDependents}
use Rattle.hm_store.specs.Records.{Adds, AddsAt, knows, rises}
use Rattle.hm_store.specs.Settlements.{settlement}
use Rattle.hm_store.specs.declared.object.Claimed.{Claimed as Reply}
use Rattle.hm_store.specs.declared.object.Claimed.TheVariants.{Job, Later, Done}
use Rattle.hm_store.specs.declared.object.Entry.{Entry}
use Rattle.hm_store.specs.declared.object.Entry.TheVariants.{Claim, Publish, Fail, Stop}
use Rattle.hm_store.specs.declared.object.Refusal.TheVariants.{NotYours, Stranger}
use Rattle.hm_store.specs.declared.object.Status.TheVariants as status
use Rattle.hm_store.specs.declared.record.Act.{Act}
use Rattle.hm_store.specs.declared.record.Act.TheVariants as act
use Rattle.hm_store.specs.declared.record.Call.{Call}
use Rattle.hm_store.specs.declared.record.Record.{Record}

-- Plans

-- two modules: 0 imports 1
abbrev pub two : Given
two = record { imports = (1 ∷ []) ∷ [] ∷ []; dependents = [] ∷ (0 ∷ []) ∷ [] }

-- four modules: 1 imports 0 and 2, and 3 imports 1
abbrev pub four : Given
four = record { imports = [] ∷ (0 ∷ 2 ∷ []) ∷ [] ∷ (1 ∷ []) ∷ []; dependents = (1 ∷ 3 ∷ []) ∷ (3 ∷ []) ∷ (1 ∷ 3 ∷ []) ∷ [] ∷ [] }

-- three modules: 0 imports 1
abbrev pub beside : Given
beside = record { imports = (1 ∷ []) ∷ [] ∷ [] ∷ []; dependents = [] ∷ (0 ∷ []) ∷ [] ∷ [] }

-- the lists of dependents are right
pub record DependentsRow : Type 0 where
  pub of_two : AreDependents two
  pub of_four : AreDependents four

-- Replies

-- the reply to a claim after these entries
abbrev pub replied : Given → List Entry → Reply
replied g es = reply_of g (state_after g es)

-- a module waits for its import, and nothing is left to do after both are published
pub record RepliesRow : Type 0 where
  pub first : replied two [] ≡ Job 1
  pub later : replied two (Claim 0 1 ∷ []) ≡ Later
  pub next : replied two (Claim 0 1 ∷ Publish 0 1 ∷ []) ≡ Job 0
  pub last : replied two (Claim 0 1 ∷ Publish 0 1 ∷ Claim 0 0 ∷ Publish 0 0 ∷ []) ≡ Done

-- the least of two ready modules is claimed, even if it became ready later
pub record LeastRow : Type 0 where
  pub first : replied beside [] ≡ Job 1
  pub next : replied beside (Claim 0 1 ∷ Publish 0 1 ∷ []) ≡ Job 0
  pub other : replied beside (Claim 0 1 ∷ []) ≡ Job 2

-- after a stop nothing is left to do. A claimed module may still be published. A second stop adds no entry
pub record StopRow : Type 0 where
  pub reply : replied two (Stop 1 ∷ []) ≡ Done
  pub claimed : IsAllowed two (Claim 0 1 ∷ Stop 1 ∷ Publish 0 1 ∷ [])
  pub once : ¬ (IsAllowed two (Stop 0 ∷ Stop 1 ∷ []))

-- a failure skips the modules that import the failed one, directly or not, and no others
pub record SkipRow : Type 0 where
  pub statuses : (state_after four (Claim 0 0 ∷ Fail 0 0 ∷ [])).statuses ≡ status.Failed ∷ status.Skipped ∷ status.Waiting ∷ status.Skipped ∷ []
  pub reply : replied four (Claim 0 0 ∷ Fail 0 0 ∷ []) ≡ Job 2

-- the object doesn't allow: a claim before the import is published, a publication without a claim or by another worker, a second claim
pub record NotAllowedRow : Type 0 where
  pub early : ¬ (IsAllowed two (Claim 0 0 ∷ []))
  pub unclaimed : ¬ (IsAllowed two (Publish 0 1 ∷ []))
  pub by_another : ¬ (IsAllowed two (Claim 0 1 ∷ Publish 1 1 ∷ []))
  pub twice : ¬ (IsAllowed two (Claim 0 1 ∷ Claim 1 1 ∷ []))

-- Refusals

-- worker 0 has claimed module 1
abbrev pub begun : List Module → List (Option Checked) → Build
begun modules kept = record { modules = modules; given = two; journal = Claim 0 1 ∷ []; kept = kept }

-- a worker that hasn't claimed the module gets `NotYours`, for any outcome
pub record RefusalRow : Type 0 where
  pub not_yours : (modules : List Module) (kept : List (Option Checked)) (c : Checked) → Refuses (begun modules kept) 1 1 c (Some NotYours)
  pub stranger : (modules : List Module) (kept : List (Option Checked)) (c : Checked) → ¬ (Refuses (begun modules kept) 1 1 c (Some Stranger))
  pub accepted : (modules : List Module) (kept : List (Option Checked)) (c : Checked) → ¬ (Refuses (begun modules kept) 1 1 c None)
  pub out_of_range : (modules : List Module) (kept : List (Option Checked)) (c : Checked) → Refuses (begun modules kept) 0 7 c (Some NotYours)

-- module 1 is published, and worker 0 has claimed module 0, which imports it
abbrev pub behind_import : List Module → List (Option Checked) → Build
behind_import modules kept = record { modules = modules; given = two; journal = Claim 0 1 ∷ Publish 0 1 ∷ Claim 0 0 ∷ []; kept = kept }

-- if the worker has claimed the module: the store accepts an outcome of that module for the published interfaces of its imports. It refuses one
-- of another module, one for an interface if nothing is imported, and one for an interface other than the published one
pub record StrangerRow : Type 0 where
  pub accepted : (modules : List Module) (kept : List (Option Checked)) (c : Checked) → slice_get modules 1 ≡ Some c.«module» → c.imports ≡ [] → Refuses (begun modules kept) 0 1 c None
  pub of_another : (modules : List Module) (kept : List (Option Checked)) (c : Checked) → slice_get modules 1 ≢ Some c.«module» → Refuses (begun modules kept) 0 1 c (Some Stranger)
  pub for_others : (modules : List Module) (kept : List (Option Checked)) (c : Checked) (f : Interface) → c.imports ≡ f ∷ [] → Refuses (begun modules kept) 0 1 c (Some Stranger)
  pub with_import : (modules : List Module) (kept : List (Option Checked)) (c : Checked) (g : Interface) → interface_at kept 1 ≡ Some g → slice_get modules 0 ≡ Some c.«module» → c.imports ≡ g ∷ []
      → Refuses (behind_import modules kept) 0 0 c None
  pub with_another : (modules : List Module) (kept : List (Option Checked)) (c : Checked) (g h : Interface) → interface_at kept 1 ≡ Some g → g ≢ h → c.imports ≡ h ∷ [] → Refuses (behind_import modules kept) 0 0 c (Some Stranger)

-- Steps

-- a build is new until it has an entry. An accepted outcome is stored, with its entry. A refused one is returned, and nothing changes
pub record StepsRow : Type 0 where
  pub first : (a b : Module) → IsNew (a ∷ b ∷ []) two.imports (record { modules = a ∷ b ∷ []; given = two; journal = []; kept = None ∷ None ∷ [] })
  pub later : (modules : List Module) (kept : List (Option Checked)) → ¬ (IsNew modules two.imports (begun modules kept))
  pub kept : (modules : List Module) (kept : List (Option Checked)) (c : Checked) → slice_get modules 1 ≡ Some c.«module» → c.imports ≡ []
      → Settles (begun modules kept) 0 1 c (Publish 0 1) (record { modules = modules; given = two; journal = Claim 0 1 ∷ Publish 0 1 ∷ []; kept = slice_set kept 1 (Some c) }) (Ok tt)
  pub refused : (modules : List Module) (kept : List (Option Checked)) (c : Checked) → Settles (begun modules kept) 1 1 c (Publish 1 1) (begun modules kept) (Err (NotYours, c))
  pub unclaimed : (modules : List Module) (kept : List (Option Checked)) (c : Checked) (after : Build) → ¬ (Settles (begun modules kept) 1 1 c (Publish 1 1) after (Ok tt))

-- Records

-- both modules were claimed and published: module 1 by worker 0, and module 0 by worker w
abbrev pub journal_by : ℕ → List Entry
journal_by w = Claim 0 1 ∷ Publish 0 1 ∷ Claim w 0 ∷ Publish w 0 ∷ []

abbrev pub done : ℕ → List Module → List (Option Checked) → Build
done w modules kept = record { modules = modules; given = two; journal = journal_by w; kept = kept }

abbrev pub call : ℕ → Act → Call
call at a = record { at = at; act = a }

-- a record of this worker with these calls
abbrev pub IsRecordOf : ℕ → List Call → Record → Type 0
IsRecordOf w cs r = (r.worker ≡ w) × (r.calls.items ≡ cs)

-- for any modules and any interface of module 1, a record of worker w with exactly these calls agrees
abbrev pub AloneAgree : ℕ → (Arc Interface Global → List Call) → Type 0
AloneAgree w calls = (modules : List Module) (kept : List (Option Checked)) (f : Arc Interface Global) → interface_at kept 1 ≡ Some (arc_value f) → (r : Record) → IsRecordOf w (calls f) r → Agree (done 0 modules kept) (r ∷ [])

-- for any modules and any interface of module 1, a record of worker w with exactly these calls doesn't agree
abbrev pub AloneDisagree : ℕ → (Arc Interface Global → List Call) → Type 0
AloneDisagree w calls = (modules : List Module) (kept : List (Option Checked)) (f : Arc Interface Global) → interface_at kept 1 ≡ Some (arc_value f) → (r : Record) → IsRecordOf w (calls f) r → ¬ (Agree (done 0 modules kept) (r ∷ []))

abbrev pub begins : List Call
begins = call 0 (act.Job 1) ∷ call 1 (act.Publish 1) ∷ call 2 (act.Job 0) ∷ []

abbrev pub found : Arc Interface Global → Call
found f = call 3 (act.Look 1 (Some f))

-- the record of a single worker agrees. It doesn't without its last two calls, with a look that finds nothing after the publication, with `Done`
-- while the worker has a claimed module, as the record of another worker, or twice
pub record RecordRow : Type 0 where
  pub whole : AloneAgree 0 (λ f. begins ++ (found f ∷ call 3 (act.Publish 0) ∷ call 4 act.Done ∷ []))
  pub cut : AloneDisagree 0 (λ f. begins ++ (found f ∷ []))
  pub blind : AloneDisagree 0 (λ f. begins ++ (call 3 (act.Look 1 None) ∷ call 3 (act.Publish 0) ∷ call 4 act.Done ∷ []))
  pub early : AloneDisagree 0 (λ f. call 0 (act.Job 1) ∷ call 1 act.Done ∷ call 1 (act.Publish 1) ∷ call 2 (act.Job 0) ∷ found f ∷ call 3 (act.Publish 0) ∷ [])
  pub by_another : AloneDisagree 1 (λ f. begins ++ (found f ∷ call 3 (act.Publish 0) ∷ call 4 act.Done ∷ []))
  pub twice : (modules : List Module) (kept : List (Option Checked)) (f : Arc Interface Global) (r : Record) → IsRecordOf 0 (begins ++ (found f ∷ call 3 (act.Publish 0) ∷ call 4 act.Done ∷ [])) r → ¬ (Agree (done 0 modules kept) (r ∷ r ∷ []))

-- the calls of the worker that checks module 1, and of one that looks too early, then claims module 0 and looks again
abbrev pub one_calls : List Call
one_calls = call 0 (act.Job 1) ∷ call 1 (act.Publish 1) ∷ []

abbrev pub other_calls : Arc Interface Global → List Call
other_calls f = call 0 (act.Look 1 None) ∷ call 2 (act.Job 0) ∷ found f ∷ call 3 (act.Publish 0) ∷ call 4 act.Done ∷ []

-- the records of two workers agree with their journal. They don't if their numbers are exchanged. No call has the place of an entry that its
-- worker wrote before
pub record TwoRecordsRow : Type 0 where
  pub both : (modules : List Module) (kept : List (Option Checked)) (f : Arc Interface Global) → interface_at kept 1 ≡ Some (arc_value f) → (r s : Record) → IsRecordOf 0 one_calls r → IsRecordOf 1 (other_calls f) s → Agree (done 1 modules kept) (r ∷ s ∷ [])
  pub exchanged : (modules : List Module) (kept : List (Option Checked)) (f : Arc Interface Global) (r s : Record) → IsRecordOf 1 one_calls r → IsRecordOf 0 (other_calls f) s → ¬ (Agree (done 1 modules kept) (r ∷ s ∷ []))
  pub behind : rises 0 (call 0 (act.Job 1) ∷ call 0 (act.Look 1 None) ∷ []) ≡ false

-- Places

-- publications are counted before an entry. A worker's next call comes after the entries that it wrote: it has the larger of that place and the
-- number of entries that it sees
pub record PlacesRow : Type 0 where
  pub none_before : publications (journal_by 0) 1 ≡ 0
  pub one_before : publications (journal_by 0) 3 ≡ 1
  pub both_before : publications (journal_by 0) 4 ≡ 2
  pub known : knows 0 one_calls ≡ 2
  pub at_known : AddsAt 1 one_calls act.Done (one_calls ++ call 2 act.Done ∷ [])
  pub at_seen : AddsAt 4 one_calls act.Done (one_calls ++ call 4 act.Done ∷ [])
  pub not_at_seen : ¬ (AddsAt 1 one_calls act.Done (one_calls ++ call 1 act.Done ∷ []))
  pub behind : Adds one_calls act.Done (one_calls ++ call 3 act.Done ∷ [])
  pub not_before : ¬ (Adds one_calls act.Done (one_calls ++ call 1 act.Done ∷ []))

-- A legal build

-- a build of the worked set by one worker: A is published, B failed, and C, which imports B, is skipped. It has the one report of the set
pub record LegalRow : Type 0 where
  pub build : Build
  pub set : set_of build ≡ three_modules
  pub journal : build.journal ≡ Claim 0 0 ∷ Publish 0 0 ∷ Claim 0 1 ∷ Fail 0 1 ∷ []
  pub legal : IsLegal build
  pub statuses : (state_of build).statuses ≡ status.Published ∷ status.Failed ∷ status.Skipped ∷ []
  pub settled : IsAllSettled build
  pub reported : IsReport (set_of build) (settlement build) three_texts
