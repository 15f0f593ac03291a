-- Type faults that follow from the signature of another definition (Report 4.4.1, 4.5).
use Rattle.std.specs.Prelude.{ℕ, List, ◌∷◌}
use Rattle.hm_types.specs.Interfaces.{Exports as Interface}
use Rattle.hm_messages_changes.specs.Holes.{IsPartOf, without}
use Rattle.hm_messages_changes.specs.declared.data.SourceRange.{SourceRange}
use Rattle.hm_messages_trials.specs.TypedSources.{HasTypesIn}

-- without this part of the source, both definitions have types
pub record IsCause (source name : List ℕ) (fs : List Interface) (definition other : List ℕ) (part : SourceRange) : Type 0 where
  pub part_of : IsPartOf source part
  pub others : List (List ℕ)
  pub types : HasTypesIn (without source part.from part.to) name fs (definition ∷ other ∷ others)
