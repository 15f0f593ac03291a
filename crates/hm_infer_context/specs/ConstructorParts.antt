-- The parts of a constructor's declared type (Report 3.17.1: a constructor pattern has all arguments).
use Rattle.std.specs.Prelude.{◌≡◌, ℕ, List, [], ◌∷◌, length, map, get_or}
use Rattle.hm_types.specs.declared.monotypes.Ty.{Ty}
use Rattle.hm_types.specs.Shape.{type_of}
use Rattle.hm_types.specs.Types.{Var, put}
use Rattle.hm_types.specs.Monotypes.{Mono}
use Rattle.hm_typing.specs.Patterns.{Instantiates}
use Rattle.hm_typing.specs.Schemes.{Monotype, arrow}
use Rattle.hm_unify.specs.WellFormed.{IsWellFormed}
use Rattle.hm_unify.specs.Solving.{Solving}
use Rattle.hm_infer_context.specs.Inferred.{IsFound}
use Rattle.hm_infer_context.specs.Problems.{monotype}

-- the type of functions from the types of a list to u
abbrev pub functions : List Monotype → Monotype → Monotype
functions [] u = u
functions (t ∷ ts) u = arrow t (functions ts u)

-- an instance of the declared type s is that of functions from these k types to t
abbrev pub HasArguments : Monotype → ℕ → Mono → (ℕ → Monotype) → List Monotype → Type 0
HasArguments s k t r ts = (length ts ≡ k) × Instantiates s (functions ts (put r (monotype t)))

-- an instance of the declared type s is that of functions from k types to t
abbrev pub IsConstructed : Monotype → ℕ → Mono → (ℕ → Monotype) → Type 0
IsConstructed s k t r = (ts : List Monotype) × HasArguments s k t r ts

-- the types with r in them
abbrev pub put_types : (ℕ → Monotype) → List Ty → List Monotype
put_types r ts = map (λ u. put r (monotype (type_of u))) ts

-- the type at a place of a list
abbrev pub type_among : List Monotype → ℕ → Monotype
type_among ts j = get_or ts j (Var 0)

-- the variables of each type are among the first g
abbrev pub AreGivenTypes : ℕ → List Ty → Type 0
AreGivenTypes g [] = Unit {0}
AreGivenTypes g (t ∷ ts) = IsWellFormed g (type_of t) × AreGivenTypes g ts

-- an instance of s is that of functions from these i types to another type
abbrev pub HasFront : Monotype → ℕ → (ℕ → Monotype) → List Monotype × Monotype → Type 0
HasFront s i r x = (length x.0 ≡ i) × Instantiates s (functions x.0 x.1)

-- the types of i arguments of an instance of s were found, and what the instance is after them
abbrev pub IsFrontFound : Monotype → ℕ → Solving → Solving → List Ty → Mono → Type 0
IsFrontFound s i before after ts rest = IsFound (HasFront s i) before after (λ r. (put_types r ts, put r (monotype rest)))
