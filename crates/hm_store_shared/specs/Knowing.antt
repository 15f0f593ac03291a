-- What a worker has seen of the journal, and what a call under the lock adds to it.
use Rattle.std.specs.Prelude.{◌≡◌, ◌==◌, ℕ, Bool, true, false, cond, fold, not, List, [], ◌∷◌, ◌++◌, Some, Result, Ok, Err}
use mathlib.Core.List.{IsPrefix}
use Rattle.hm_syntax.specs.declared.ast.Module.{Module}
use Rattle.hm_verdicts.specs.Outcomes.{Checked}
use Rattle.hm_store.specs.Builds.{Build, IsAllSettled, IsLegal, Refuses, after_claim, after_stop, state_of}
use Rattle.hm_store.specs.Objects.{reply_of}
use Rattle.hm_store.specs.Records.{replied}
use Rattle.hm_store.specs.declared.object.Entry.{Entry}
use Rattle.hm_store.specs.declared.object.Entry.TheVariants as entry
use Rattle.hm_store.specs.declared.object.Refusal.{Refusal}
use Rattle.hm_store.specs.declared.object.Turn.{Turn}
use Rattle.hm_store.specs.declared.object.Turn.TheVariants as turn
use Rattle.hm_store.specs.declared.record.Act.{Act}
use Rattle.hm_store.specs.declared.record.Act.TheVariants.{Job, Publish, Fail, Stop}
use Rattle.hm_store_journal.specs.Entries.{by}
use Rattle.hm_store_shared.specs.Listings.{IsBuildOf, reason_of}

-- the recorded call that writes this entry
abbrev pub act_by : Entry → Act
act_by (entry.Claim w m) = Job m
act_by (entry.Publish w m) = Publish m
act_by (entry.Fail w m) = Fail m
act_by (entry.Stop w) = Stop true

-- the entries begin with those that worker w had seen, and none of the others is of this worker
pub record Begins (w : ℕ) (known : List Entry) (entries : List Entry) : Type 0 where
  pub begun : IsPrefix known entries
  pub own : by w entries ≡ by w known

-- a legal build of these modules with this plan, whose journal begins with what worker w had seen
pub record IsMet (subjects : List Module) (plan : List (List ℕ)) (w : ℕ) (known : List Entry) (b : Build) : Type 0 where
  pub same : IsBuildOf subjects plan b
  pub legal : IsLegal b
  pub begins : Begins w known b.journal

-- a claim of worker w: after a journal that begins with what the worker had seen, the build object has this reply. The worker has then seen this journal and its
-- claim
pub record Claims (subjects : List Module) (plan : List (List ℕ)) (w : ℕ) (old new : List Entry) (turn : Turn) : Type 0 where
  pub before : Build
  pub met : IsMet subjects plan w old before
  pub reply : reply_of before.given (state_of before) ≡ replied (Some turn)
  pub knows : new ≡ (after_claim before w (replied (Some turn))).journal

-- the same of a stop, which is an entry if it is the first
pub record Stops (subjects : List Module) (plan : List (List ℕ)) (w : ℕ) (old new : List Entry) (first : Bool) : Type 0 where
  pub before : Build
  pub met : IsMet subjects plan w old before
  pub reply : first ≡ not (state_of before).stopped
  pub knows : new ≡ (after_stop before w first).journal

-- the journal after a publication or a failure with this reply
abbrev pub journal_after : Result (Unit {0}) (Refusal × Checked) → List Entry → Entry → List Entry
journal_after (Ok _) es e = es ++ e ∷ []
journal_after (Err _) es e = es

-- the same of a publication or a failure of module m, which is this entry if it is accepted. The build object has no reason for `Memory`
pub record Answers (subjects : List Module) (plan : List (List ℕ)) (w m : ℕ) (c : Checked) (e : Entry) (old new : List Entry) (r : Result (Unit {0}) (Refusal × Checked)) : Type 0 where
  pub before : Build
  pub met : IsMet subjects plan w old before
  pub reason : Refuses before w m c (reason_of r)
  pub knows : new ≡ journal_after r before.journal e

-- a legal build of these modules with this journal is stopped
pub record IsStopped (subjects : List Module) (plan : List (List ℕ)) (known : List Entry) : Type 0 where
  pub build : Build
  pub same : IsBuildOf subjects plan build
  pub legal : IsLegal build
  pub knows : known ≡ build.journal
  pub stopped : (state_of build).stopped ≡ true

-- a legal build of these modules with this journal has settled each of them
pub record IsEnded (subjects : List Module) (plan : List (List ℕ)) (known : List Entry) : Type 0 where
  pub build : Build
  pub same : IsBuildOf subjects plan build
  pub legal : IsLegal build
  pub knows : known ≡ build.journal
  pub settled : IsAllSettled build

-- after this entry of its own, a worker still has to end module m
abbrev pub has_after : ℕ → Bool → Entry → Bool
has_after m has (entry.Claim w k) = cond (k == m) true has
has_after m has (entry.Publish w k) = cond (k == m) false has
has_after m has (entry.Fail w k) = cond (k == m) false has
has_after m has (entry.Stop w) = has

-- by its own entries among these, worker w has claimed module m, and neither published nor failed it since
abbrev pub HasClaimed : ℕ → List Entry → ℕ → Type 0
HasClaimed w es m = fold (has_after m) false (by w es) ≡ true

-- the same of the module that a claim got
abbrev pub HasJob : ℕ → List Entry → Turn → Type 0
HasJob w es (turn.Job m) = HasClaimed w es m
HasJob w es turn.Done = Unit {0}
