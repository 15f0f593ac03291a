-- The records of workers: which calls they list, and in which order.
use Rattle.std.specs.Prelude.{◌≡◌, ◌&&◌, ℕ, ◌+◌, ◌≤◌, Bool, true, cond, nat_le, List, [], ◌∷◌, ◌++◌, max, sum_by, Option, Some, None}
use Rattle.hm_store.specs.declared.object.Turn.{Turn}
use Rattle.hm_store.specs.declared.object.Turn.TheVariants as turn
use Rattle.hm_store.specs.declared.object.Claimed.{Claimed}
use Rattle.hm_store.specs.declared.object.Claimed.TheVariants as claimed
use Rattle.hm_store.specs.declared.record.Act.{Act}
use Rattle.hm_store.specs.declared.record.Act.TheVariants.{Job, Done, Publish, Fail, Stop, Look}
use Rattle.hm_store.specs.declared.record.Call.{Call}

-- the number of journal entries that a call writes
abbrev pub wrote : Act → ℕ
wrote (Job m) = 1
wrote Done = 0
wrote (Publish m) = 1
wrote (Fail m) = 1
wrote (Stop first) = cond first 1 0
wrote (Look m found) = 0

abbrev pub wrote_in : List Call → ℕ
wrote_in cs = sum_by (λ c. wrote c.act) cs

-- the least number of entries that the journal has after a call
abbrev pub known_after : Call → ℕ
known_after c = c.at + wrote c.act

-- the same after several calls, if it was n before them
abbrev pub knows : ℕ → List Call → ℕ
knows n [] = n
knows n (c ∷ cs) = knows (known_after c) cs

-- the places of the calls never go back, from n on
abbrev pub rises : ℕ → List Call → Bool
rises n [] = true
rises n (c ∷ cs) = nat_le n c.at && rises (known_after c) cs

-- the record grows by one call with this reply, whose place doesn't go back
abbrev pub Adds : List Call → Act → List Call → Type 0
Adds cs a ds = (at : ℕ) × (knows 0 cs ≤ at) × (ds ≡ cs ++ record { at = at; act = a } ∷ [])

-- the record grows by one call with this reply, at the larger of this number and the place that the worker has reached
abbrev pub AddsAt : ℕ → List Call → Act → List Call → Type 0
AddsAt n cs a ds = ds ≡ cs ++ record { at = max n (knows 0 cs); act = a } ∷ []

-- the recorded call for this reply to a claim
abbrev pub act_of : Turn → Act
act_of (turn.Job m) = Job m
act_of turn.Done = Done

-- the build object's reply to the claim of a worker that got this turn, or that waits
abbrev pub replied : Option Turn → Claimed
replied (Some (turn.Job m)) = claimed.Job m
replied (Some turn.Done) = claimed.Done
replied None = claimed.Later
