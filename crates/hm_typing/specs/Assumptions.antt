-- Assumptions: names with schemes, the innermost first (Damas and Milner 1982, section 5).
use Rattle.std.specs.Prelude.{◌≡◌, ℕ, List, [], ◌∷◌, ◌⊎◌}
use Rattle.hm_types.specs.Types.{In}
use Rattle.hm_typing.specs.Names.{Identifier}
use Rattle.hm_typing.specs.Schemes.{Monotype, Scheme, Free, IsInstance, scheme_put}

pub data Assumptions : Type 0 where
  empty : Assumptions
  bind : Identifier → Scheme → Assumptions → Assumptions

-- the names have these schemes, before those of A
abbrev pub bind_all : List Identifier → (Identifier → Scheme) → Assumptions → Assumptions
bind_all [] s A = A
bind_all (x ∷ xs) s A = bind x (s x) (bind_all xs s A)

-- under A the name x has the type t, which is an instance of the scheme of its innermost binding
abbrev pub Has : Assumptions → Identifier → Monotype → Type 0
Has empty x t = ⊥
Has (bind y σ A) x t = ((x ≡ y) × IsInstance t σ) ⊎ (¬ (x ≡ y) × Has A x t)

-- the type variable a is free in a scheme of A
abbrev pub FreeIn : ℕ → Assumptions → Type 0
FreeIn a empty = ⊥
FreeIn a (bind x σ A) = In (Free a) σ ⊎ FreeIn a A

-- no type variable is free in A
abbrev pub IsClosed : Assumptions → Type 0
IsClosed A = (a : ℕ) → ¬ (FreeIn a A)

abbrev pub assumptions_put : (ℕ → Monotype) → Assumptions → Assumptions
assumptions_put r empty = empty
assumptions_put r (bind x σ A) = bind x (scheme_put r σ) (assumptions_put r A)

-- A is at most as general as A': each name has under A' each type that it has under A
abbrev pub AreAtMostAsGeneral : Assumptions → Assumptions → Type 0
AreAtMostAsGeneral A A' = (x : Identifier) (t : Monotype) → Has A x t → Has A' x t
