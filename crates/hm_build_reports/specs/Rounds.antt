-- The order in which the workers of a build make their calls.
use Rattle.std.specs.Prelude.{◌≡◌, ◌⊎◌, ℕ, List, [], ◌∷◌, ◌++◌, map, Some, None, slice_index_or}
use Rattle.std.specs.List.{flat_map}
use Rattle.hm_store.specs.declared.record.Act.{Act}
use Rattle.hm_store.specs.declared.record.Act.TheVariants.{Job, Done, Publish, Fail, Stop, Look}
use Rattle.hm_store.specs.declared.record.Call.{Call}
use Rattle.hm_store.specs.declared.record.Record.{Record}

-- a call and its reply, without its place in the journal and without the interface that was found
pub data Deed : Type 0 where
  Claimed : ℕ → Deed
  Found : ℕ → Deed
  Settled : ℕ → Deed
  Left : Deed
  Other : Deed

-- a claim got a module; a look-up found an interface; a publication or failure was accepted; or a claim returned `Done`
unfoldable pub deed : Act → Deed
deed (Job m) = Claimed m
deed Done = Left
deed (Publish m) = Settled m
deed (Fail m) = Settled m
deed (Stop first) = Other
deed (Look m (Some f)) = Found m
deed (Look m None) = Other

abbrev pub deeds : List Call → List Deed
deeds calls = map (λ c. deed c.act) calls

-- the round of a module: it is claimed, each of its imports is looked up and found, in order, and it is published or fails
abbrev pub round : List (List ℕ) → ℕ → List Deed
round plan m = Claimed m ∷ (map Found (slice_index_or plan m []) ++ (Settled m ∷ []))

-- the rounds of some modules, and then a claim that returns `Done`
abbrev pub IsWorked : List (List ℕ) → List Call → Type 0
IsWorked plan calls = (ms : List ℕ) × (deeds calls ≡ flat_map (round plan) ms ++ (Left ∷ []))

-- a worker that was started made its calls in rounds, and another one made no call
abbrev pub IsInRounds : List (List ℕ) → Record → Type 0
IsInRounds plan r = (r.calls.items ≡ []) ⊎ IsWorked plan r.calls.items
