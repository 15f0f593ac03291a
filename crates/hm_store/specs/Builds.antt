-- A build: its modules, its journal and the outcomes of checked modules; and when it is legal.
use Rattle.std.specs.Prelude.{◌≡◌, ◌≢◌, ℕ, ◌<◌, Bool, true, cond, List, [], ◌∷◌, ◌++◌, length, map, replicate, Option, Some, None, Result, Ok, Err, slice_index_or, slice_get, slice_set}
use Rattle.hm_types.specs.Interfaces.{Exports as Interface}
use Rattle.hm_types.specs.StandardPrelude.{prelude_interface}
use Rattle.hm_syntax.specs.declared.ast.Module.{Module}
use Rattle.hm_names.specs.declared.faults.Fault.{Fault}
use Rattle.hm_verdicts.specs.ModuleVerdicts.{Verdict, Good, Faulty, IsVerdict}
use Rattle.hm_verdicts.specs.Sets.{ModuleSet, IsLawfulSet}
use Rattle.hm_verdicts.specs.Outcomes.{Checked}
use Rattle.hm_store.specs.Plans.{Given, AreDependents, imports_of}
use Rattle.hm_store.specs.Objects.{State, status_at, is_settled, state_after, IsAllowed}
use Rattle.hm_store.specs.declared.object.Status.{Status}
use Rattle.hm_store.specs.declared.object.Status.TheVariants.{Waiting, Claimed, Published, Failed, Skipped}
use Rattle.hm_store.specs.declared.object.Entry.{Entry}
use Rattle.hm_store.specs.declared.object.Entry.TheVariants.{Claim, Stop}
use Rattle.hm_store.specs.declared.object.Claimed.{Claimed as Reply}
use Rattle.hm_store.specs.declared.object.Claimed.TheVariants.{Job, Later, Done}
use Rattle.hm_store.specs.declared.object.Refusal.{Refusal}
use Rattle.hm_store.specs.declared.object.Refusal.TheVariants.{NotYours, Stranger, Memory}
use Rattle.hm_store_published.specs.Publications as publications

-- the modules, the plan, the journal, and for each module its outcome if it was published or failed
pub record Build : Type 0 where
  pub modules : List Module
  pub given : Given
  pub journal : List Entry
  pub kept : List (Option Checked)

-- the modules with their plan
abbrev pub set_of : Build → ModuleSet
set_of b = record { modules = b.modules; plan = b.given.imports }

-- the state after the journal
abbrev pub state_of : Build → State
state_of b = state_after b.given b.journal

abbrev pub interface_of : Verdict → Option Interface
interface_of v = publications.interface_of v

abbrev pub kept_at : List (Option Checked) → ℕ → Option Checked
kept_at kept m = slice_index_or kept m None

abbrev pub interface_in : Option Checked → Option Interface
interface_in (Some c) = interface_of c.verdict
interface_in None = None

-- the published interface of a module
abbrev pub interface_at : List (Option Checked) → ℕ → Option Interface
interface_at kept m = interface_in (kept_at kept m)

-- the outcome is that of module m for the published interfaces of its imports
pub record IsOf (b : Build) (m : ℕ) (c : Checked) : Type 0 where
  pub subject : slice_get b.modules m ≡ Some c.«module»
  pub imports : map (λ f. Some f) c.imports ≡ map (interface_at b.kept) (imports_of b.given m)

-- the outcome that a module with this status has: a good one, a faulty one, or none
abbrev pub AgreesWith : Status → Option Checked → Type 0
AgreesWith Waiting kept = kept ≡ None
AgreesWith (Claimed w) kept = kept ≡ None
AgreesWith Published kept = (c : Checked) × (kept ≡ Some c) × ((f : Interface) × (c.verdict ≡ Good f))
AgreesWith Failed kept = (c : Checked) × (kept ≡ Some c) × ((found : List Fault) × (c.verdict ≡ Faulty found))
AgreesWith Skipped kept = kept ≡ None

-- the status of a module with this verdict
abbrev pub status_by : Verdict → Status
status_by (Good f) = Published
status_by (Faulty found) = Failed

abbrev pub Agrees : List Status → List (Option Checked) → Type 0
Agrees ss kept = (m : ℕ) → AgreesWith (status_at ss m) (kept_at kept m)

-- each outcome is of its module, for the published interfaces of the imports, and its verdict is right for these
abbrev pub IsSound : Build → Type 0
IsSound b = (m : ℕ) (c : Checked) → kept_at b.kept m ≡ Some c → IsOf b m c × IsVerdict c.«module» (prelude_interface ∷ c.imports) c.verdict

-- the modules are a lawful set, the build object allows the journal, and the outcomes fit the statuses and have the right verdicts
pub record IsLegal (b : Build) : Type 0 where
  pub lawful : IsLawfulSet (set_of b)
  pub dependents : AreDependents b.given
  pub allowed : IsAllowed b.given b.journal
  pub count : length b.kept ≡ length b.modules
  pub agrees : Agrees (state_of b).statuses b.kept
  pub sound : IsSound b

-- the build of these modules before any entry
pub record IsNew (subjects : List Module) (plan : List (List ℕ)) (b : Build) : Type 0 where
  pub modules : b.modules ≡ subjects
  pub imports : b.given.imports ≡ plan
  pub journal : b.journal ≡ []
  pub kept : b.kept ≡ replicate (length subjects) None

-- each module is published, failed or skipped
abbrev pub IsAllSettled : Build → Type 0
IsAllSettled b = (m : ℕ) → m < length b.modules → is_settled (status_at (state_of b).statuses m) ≡ true

abbrev pub with_entry : Build → Entry → Build
with_entry b e = record { modules = b.modules; given = b.given; journal = b.journal ++ e ∷ []; kept = b.kept }

-- the build after a claim with this reply
abbrev pub after_claim : Build → ℕ → Reply → Build
after_claim b w (Job m) = with_entry b (Claim w m)
after_claim b w Later = b
after_claim b w Done = b

abbrev pub with_kept : Build → ℕ → Checked → Entry → Build
with_kept b m c e = record { modules = b.modules; given = b.given; journal = b.journal ++ e ∷ []; kept = slice_set b.kept m (Some c) }

-- the build after a stop. Only the first stop is an entry
abbrev pub after_stop : Build → ℕ → Bool → Build
after_stop b w first = cond first (with_entry b (Stop w)) b

-- why an outcome is refused, if it is: the worker hasn't claimed the module; or the outcome is for another module or for other interfaces. A
-- store that isn't shared never returns `Memory`
abbrev pub Refuses : Build → ℕ → ℕ → Checked → Option Refusal → Type 0
Refuses b w m c (Some NotYours) = status_at (state_of b).statuses m ≢ Claimed w
Refuses b w m c (Some Stranger) = (status_at (state_of b).statuses m ≡ Claimed w) × ¬ IsOf b m c
Refuses b w m c (Some Memory) = ⊥
Refuses b w m c None = (status_at (state_of b).statuses m ≡ Claimed w) × IsOf b m c

-- a publication or a failure is a step of the build object, or nothing changes and the outcome is returned
abbrev pub Settles : Build → ℕ → ℕ → Checked → Entry → Build → Result (Unit {0}) (Refusal × Checked) → Type 0
Settles b w m c e b' (Ok _) = Refuses b w m c None × (b' ≡ with_kept b m c e)
Settles b w m c e b' (Err r) = Refuses b w m c (Some r.0) × (b' ≡ b) × (r.1 ≡ c)
