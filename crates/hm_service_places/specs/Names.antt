-- The names of sources of a held set.
use Rattle.std.specs.Prelude.{ℕ, List, map}
use Rattle.std.specs.Fmt.{decimal}

-- the names of sources: their numbers
abbrev pub names_of : List ℕ → List (List ℕ)
names_of numbers = map decimal numbers
