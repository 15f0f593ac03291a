-- Where a name is bound, in the text of a run for a place.
use Rattle.std.specs.Prelude.{◌≡◌, ◌++◌, ℕ, List, codes}
use Rattle.std.specs.Fmt.{decimal}
use Rattle.hm_service_messages.specs.declared.spots.Bound.{Bound}

-- a line of the text says that the name is bound at this place. The source is named by its number
abbrev pub HasBoundLine : Bound → List ℕ → Type 0
HasBoundLine b text =
    (before : List ℕ) × ((after : List ℕ) × (text ≡ before ++ (codes "  bound at " ++ (decimal b.source ++ (codes ":" ++ (decimal b.line ++ (codes ":" ++ (decimal b.column ++ (codes "\n" ++ after)))))))))
