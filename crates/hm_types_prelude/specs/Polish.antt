-- Types of Prelude in Polish notation: each constructor comes before its arguments. No public clause names it.
use Rattle.std.specs.Prelude.{◌≡◌, ℕ, List, [], ◌∷◌, All, codes, take, drop}
use Rattle.hm_types.specs.declared.Head.{Head}
use Rattle.hm_types.specs.declared.Head.TheVariants.{Named, Arrow, Tuple}
use Rattle.hm_types.specs.declared.Head.TheVariants as head
use Rattle.hm_types_prelude.specs.declared.polish.Part.{Part}
use Rattle.hm_types_prelude.specs.declared.polish.Part.TheVariants as part
use Rattle.hm_types.specs.Types.{App as app}
use Rattle.hm_types.specs.Monotypes.{Mono, arguments_of}
use Rattle.hm_types.specs.Schemes.{HasArities, HasNoRigid, canonical_of}
use Rattle.hm_types.specs.StandardPrelude.{a, b, c, in_prelude}

-- a constructor with the first types of a list as arguments, and the other types
abbrev pub applied : Head → ℕ → List Mono → List Mono
applied h n ts = app h (arguments_of (take n ts)) ∷ drop n ts

-- the types after one more part before them
abbrev pub with_part : Part → List Mono → List Mono
with_part part.A ts = a ∷ ts
with_part part.B ts = b ∷ ts
with_part part.C ts = c ∷ ts
with_part part.Function ts = applied Arrow 2 ts
with_part part.List ts = applied head.List 1 ts
with_part part.Pair ts = applied (Tuple 2) 2 ts
with_part part.Bool ts = applied (Named (in_prelude (codes "Bool"))) 0 ts
with_part part.Char ts = applied (Named (in_prelude (codes "Char"))) 0 ts
with_part part.Either ts = applied (Named (in_prelude (codes "Either"))) 2 ts
with_part part.Int ts = applied (Named (in_prelude (codes "Int"))) 0 ts
with_part part.Maybe ts = applied (Named (in_prelude (codes "Maybe"))) 1 ts
with_part part.Ordering ts = applied (Named (in_prelude (codes "Ordering"))) 0 ts

-- the types of these parts, before other types
abbrev pub written : List Part → List Mono → List Mono
written [] ts = ts
written (p ∷ ps) ts = with_part p (written ps ts)

abbrev pub first_of : List Mono → Mono
first_of [] = app head.Unit (arguments_of [])
first_of (t ∷ ts) = t

-- the type of these parts
abbrev pub read_as : List Part → Mono
read_as ps = first_of (written ps [])

-- the type has this many variables, numbered in order of first occurrence
abbrev pub IsNumbered : ℕ → Mono → Type 0
IsNumbered n t = canonical_of t ≡ record { vars = n; body = t }

-- each row has the number of variables of a type and its parts, and the type has a scheme
pub record WriteSchemes (rows : List (ℕ × List Part)) : Type 0 where
  pub not_rigid : All (λ row. HasNoRigid (read_as row.1)) rows
  pub arities : All (λ row. HasArities (read_as row.1)) rows
  pub numbered : All (λ row. IsNumbered row.0 (read_as row.1)) rows
