-- The build object: its states, replies and steps. It is sequential: one list of its steps describes what several workers do at the same time.
use Rattle.std.specs.Prelude.{◌≡◌, ◌&&◌, ℕ, zero, suc, Bool, true, false, cond, List, [], ◌∷◌, length, take, count_by, replicate, fold, Option, Some, None, slice_index_or, slice_set}
use Rattle.std.specs.List.{list_any, list_all}
use Rattle.hm_store.specs.Plans.{Given, imports_of, dependents_of}
use Rattle.hm_store.specs.declared.object.Status.{Status}
use Rattle.hm_store.specs.declared.object.Status.TheVariants.{Waiting, Claimed, Published, Failed, Skipped}
use Rattle.hm_store.specs.declared.object.Entry.{Entry}
use Rattle.hm_store.specs.declared.object.Entry.TheVariants.{Claim, Publish, Fail, Stop}
use Rattle.hm_store.specs.declared.object.Claimed.{Claimed as Reply}
use Rattle.hm_store.specs.declared.object.Claimed.TheVariants.{Job, Later, Done}

-- the status of each module, and whether the build was stopped
pub record State : Type 0 where
  pub statuses : List Status
  pub stopped : Bool

-- a number that no module has counts as skipped
abbrev pub status_at : List Status → ℕ → Status
status_at ss m = slice_index_or ss m Skipped

abbrev pub is_waiting : Status → Bool
is_waiting Waiting = true
is_waiting (Claimed w) = false
is_waiting Published = false
is_waiting Failed = false
is_waiting Skipped = false

abbrev pub is_claimed : Status → Bool
is_claimed Waiting = false
is_claimed (Claimed w) = true
is_claimed Published = false
is_claimed Failed = false
is_claimed Skipped = false

abbrev pub is_published : Status → Bool
is_published Waiting = false
is_published (Claimed w) = false
is_published Published = true
is_published Failed = false
is_published Skipped = false

-- published, failed or skipped
abbrev pub is_settled : Status → Bool
is_settled Waiting = false
is_settled (Claimed w) = false
is_settled Published = true
is_settled Failed = true
is_settled Skipped = true

abbrev pub or_here : Option ℕ → Bool → ℕ → Option ℕ
or_here (Some k) here n = Some k
or_here None here n = cond here (Some n) None

-- the least number below n for which p holds
abbrev pub least_below : (ℕ → Bool) → ℕ → Option ℕ
least_below p zero = None
least_below p (suc n) = or_here (least_below p n) (p n) n

-- the module waits, and its imports are all published
abbrev pub is_ready : Given → List Status → ℕ → Bool
is_ready g ss m = is_waiting (status_at ss m) && list_all (λ k. is_published (status_at ss k)) (imports_of g m)

abbrev pub job_or : Option ℕ → Bool → Reply
job_or (Some m) later = Job m
job_or None later = cond later Later Done

-- the reply to a claim: `Done` after a stop; else the least ready module; else `Later` while a module is claimed; else `Done`
abbrev pub reply_of : Given → State → Reply
reply_of g s = cond s.stopped Done (job_or (least_below (is_ready g s.statuses) (length s.statuses)) (list_any is_claimed s.statuses))

-- skips a module if it waits
abbrev pub skip : List Status → ℕ → List Status
skip ss k = cond (is_waiting (status_at ss k)) (slice_set ss k Skipped) ss

abbrev pub skip_all : List Status → List ℕ → List Status
skip_all ss ks = fold skip ss ks

-- the state after an entry. A failure skips all modules that depend on the failed one
abbrev pub after : Given → State → Entry → State
after g s (Claim w m) = record { statuses = slice_set s.statuses m (Claimed w); stopped = s.stopped }
after g s (Publish w m) = record { statuses = slice_set s.statuses m Published; stopped = s.stopped }
after g s (Fail w m) = record { statuses = skip_all (slice_set s.statuses m Failed) (dependents_of g m); stopped = s.stopped }
after g s (Stop w) = record { statuses = s.statuses; stopped = true }

abbrev pub is_publication : Entry → Bool
is_publication (Claim w m) = false
is_publication (Publish w m) = true
is_publication (Fail w m) = false
is_publication (Stop w) = false

-- the number of publications among the first `at` entries
abbrev pub publications : List Entry → ℕ → ℕ
publications es at = count_by is_publication (take at es)

-- the entries that the object allows in a state: a claim that is its reply, a publication or failure by the worker that claimed the module, and
-- the first stop
abbrev pub Allowed : Given → State → Entry → Type 0
Allowed g s (Claim w m) = reply_of g s ≡ Job m
Allowed g s (Publish w m) = status_at s.statuses m ≡ Claimed w
Allowed g s (Fail w m) = status_at s.statuses m ≡ Claimed w
Allowed g s (Stop w) = s.stopped ≡ false

abbrev pub state_from : Given → State → List Entry → State
state_from g s es = fold (after g) s es

abbrev pub AllowedFrom : Given → State → List Entry → Type 0
AllowedFrom g s [] = Unit {0}
AllowedFrom g s (e ∷ es) = Allowed g s e × AllowedFrom g (after g s e) es

abbrev pub all_waiting : List (List ℕ) → List Status
all_waiting is = replicate (length is) Waiting

-- all modules wait
abbrev pub opening : Given → State
opening g = record { statuses = all_waiting g.imports; stopped = false }

-- the state after these entries
abbrev pub state_after : Given → List Entry → State
state_after g es = state_from g (opening g) es

-- each entry is allowed after those before it
abbrev pub IsAllowed : Given → List Entry → Type 0
IsAllowed g es = AllowedFrom g (opening g) es
