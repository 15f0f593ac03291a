-- The calls that a worker's claims take.
use Rattle.std.specs.Prelude.{ℕ, ◌+◌, List, [], length, sum_by, slice_index_or}
use Rattle.hm_store.specs.declared.object.Entry.{Entry}
use Rattle.hm_store.specs.declared.object.Entry.TheVariants.{Claim, Publish, Fail, Stop}
use Rattle.hm_store.specs.declared.object.Turn.{Turn}
use Rattle.hm_store.specs.declared.object.Turn.TheVariants as turn

-- the calls for a module that is claimed: the claim, a look-up for each import, and a publication or a failure
abbrev pub calls_for : List (List ℕ) → Entry → ℕ
calls_for plan (Claim w m) = length (slice_index_or plan m []) + 2
calls_for plan (Publish w m) = 0
calls_for plan (Fail w m) = 0
calls_for plan (Stop w) = 0

-- the calls for all modules that are claimed by these entries
abbrev pub calls_in : List (List ℕ) → List Entry → ℕ
calls_in plan es = sum_by (calls_for plan) es

-- the calls for the module that a claim got
abbrev pub calls_by : List (List ℕ) → Turn → ℕ
calls_by plan (turn.Job m) = length (slice_index_or plan m []) + 2
calls_by plan turn.Done = 0
