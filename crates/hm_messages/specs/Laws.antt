-- The laws of messages, as statements.
use Rattle.std.specs.Prelude.{ℕ, List}
use Rattle.hm_run_sources.specs.Refusals.{Refusal}
use Rattle.hm_run_sources.specs.Runs.{IsRefusalOf}
use Rattle.hm_messages.specs.Foreign.{IsForeign}

-- why sources are refused is a fault of theirs
abbrev pub HasNoForeignRefusal : Type 0
HasNoForeignRefusal = (sources : List (List ℕ)) (fault : Refusal) → IsRefusalOf sources fault → ¬ (IsForeign sources fault)
