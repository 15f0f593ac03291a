-- Agreement of the workers' records with a journal.
use Rattle.std.specs.Prelude.{◌≡◌, ◌==◌, ◌&&◌, ℕ, ◌<◌, ◌≤◌, Bool, true, not, cond, List, take, length, sum_by, count_by, Option, Some, None, IfSome, All, slice_get, option_map}
use Rattle.std.specs.Arc.{arc_value}
use Rattle.hm_types.specs.Interfaces.{Exports as Interface}
use Rattle.hm_store.specs.Objects.{State, status_at, is_published, reply_of, state_after}
use Rattle.hm_store.specs.Builds.{Build, interface_at}
use Rattle.hm_store.specs.Records.{wrote, rises}
use Rattle.hm_store.specs.declared.object.Status.TheVariants.{Claimed}
use Rattle.hm_store.specs.declared.object.Claimed.TheVariants as reply
use Rattle.hm_store.specs.declared.object.Entry.{Entry}
use Rattle.hm_store.specs.declared.object.Entry.TheVariants as entry
use Rattle.hm_store.specs.declared.record.Act.{Act}
use Rattle.hm_store.specs.declared.record.Act.TheVariants.{Job, Done, Publish, Fail, Stop, Look}
use Rattle.hm_store.specs.declared.record.Call.{Call}
use Rattle.hm_store.specs.declared.record.Record.{Record}

-- the entry that a call of worker w writes
abbrev pub entry_of : ℕ → Act → Option Entry
entry_of w (Job m) = Some (entry.Claim w m)
entry_of w Done = None
entry_of w (Publish m) = Some (entry.Publish w m)
entry_of w (Fail m) = Some (entry.Fail w m)
entry_of w (Stop first) = cond first (Some (entry.Stop w)) None
entry_of w (Look m found) = None

-- the interface that a look-up finds in this state
abbrev pub look_in : Build → State → ℕ → Option Interface
look_in b s m = cond (is_published (status_at s.statuses m)) (interface_at b.kept m) None

-- the call has the reply of the build object in this state
abbrev pub Replies : Build → State → ℕ → Act → Type 0
Replies b s w (Job m) = reply_of b.given s ≡ reply.Job m
Replies b s w Done = reply_of b.given s ≡ reply.Done
Replies b s w (Publish m) = status_at s.statuses m ≡ Claimed w
Replies b s w (Fail m) = status_at s.statuses m ≡ Claimed w
Replies b s w (Stop first) = first ≡ not s.stopped
Replies b s w (Look m found) = option_map arc_value found ≡ look_in b s m

-- a recorded call has its reply after the first `at` entries, and the entry that it wrote has the number `at`
pub record CallAgrees (b : Build) (w : ℕ) (c : Call) : Type 0 where
  pub within : c.at ≤ length b.journal
  pub reply : Replies b (state_after b.given (take c.at b.journal)) w c.act
  pub entry : IfSome (entry_of w c.act) (λ e. slice_get b.journal c.at ≡ Some e)

abbrev pub writes_at : ℕ → Call → Bool
writes_at i c = (wrote c.act == 1) && (c.at == i)

-- the number of calls that wrote entry number i
abbrev pub writers : ℕ → List Record → ℕ
writers i rs = sum_by (λ r. count_by (writes_at i) r.calls.items) rs

-- the record is in order, and each of its calls agrees
pub record RecordAgrees (b : Build) (r : Record) : Type 0 where
  pub order : rises 0 r.calls.items ≡ true
  pub calls : All (CallAgrees b r.worker) r.calls.items

-- exactly one call of one record wrote each entry, and each record agrees
pub record Agree (b : Build) (rs : List Record) : Type 0 where
  pub once : (i : ℕ) → i < length b.journal → writers i rs ≡ 1
  pub records : All (RecordAgrees b) rs
