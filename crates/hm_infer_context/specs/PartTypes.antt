-- The variables that are the types of a pattern's parts.
use Rattle.std.specs.Prelude.{ℕ, Bool, true, false}
use Rattle.hm_infer_context.specs.declared.patterns.PartTypes.{PartTypes}
use Rattle.hm_infer_context.specs.declared.patterns.PartTypes.TheVariants.{Row, One}

-- one variable is the type of all parts
abbrev pub is_one : PartTypes → Bool
is_one (Row n) = false
is_one (One n) = true

abbrev pub first_of : PartTypes → ℕ
first_of (Row n) = n
first_of (One n) = n
