-- Names.
use Rattle.std.specs.Prelude.{ℕ, Bool, List, codes, nat_eq}
use lib.Pointwise.{pointwise}

-- whether this is the name of the module Prelude
abbrev pub is_prelude : List ℕ → Bool
is_prelude name = pointwise nat_eq name (codes "Prelude")
