-- What a step of inference finds: the most general type with a property (Damas and Milner 1982, section 6, algorithm W).
use Rattle.std.specs.Prelude.{◌≡◌, ℕ, ◌<◌, ◌≤◌}
use Rattle.hm_types.specs.Types.{put}
use Rattle.hm_types.specs.Monotypes.{Mono}
use Rattle.hm_typing.specs.Schemes.{Monotype, arrow}
use Rattle.hm_typing.specs.Problems.{Unifies, FactsBelow}
use Rattle.hm_unify.specs.Solving.{Solving}
use Rattle.hm_infer_context.specs.Problems.{monotype, problem, bound}

-- under each unifier of the state after the step, what is found has the property. All that has it under a unifier of the state before is found under one of the state after
pub record IsFound {X : Type 0} (Has : (ℕ → Monotype) → X → Type 0) (before after : Solving) (found : (ℕ → Monotype) → X) : Type 0 where
  pub grows : before.given ≤ after.given
  pub below : FactsBelow (bound after) (problem after)
  pub sound : (r : ℕ → Monotype) → Unifies r (problem after) → Unifies r (problem before) × Has r (found r)
  pub complete : (r : ℕ → Monotype) (x : X) → Unifies r (problem before) → Has r x → (q : ℕ → Monotype) × ((n : ℕ) → n < bound before → q n ≡ r n) × Unifies q (problem after) × (found q ≡ x)

-- u is the most general type with the property
abbrev pub IsInferred : ((ℕ → Monotype) → Monotype → Type 0) → Solving → Solving → Mono → Type 0
IsInferred Has before after u = IsFound Has before after (λ r. put r (monotype u))

-- a type has the property
abbrev pub IsTyped : ((ℕ → Monotype) → Monotype → Type 0) → (ℕ → Monotype) → Type 0
IsTyped Has r = (t : Monotype) × Has r t

-- t is the type of functions from the first to the second
abbrev pub IsFunction : Mono → (ℕ → Monotype) → Monotype × Monotype → Type 0
IsFunction t r parts = put r (monotype t) ≡ arrow parts.0 parts.1

-- argument and outcome are the most general parts of the function type t
abbrev pub AreParts : Mono → Solving → Solving → Mono → Mono → Type 0
AreParts t before after argument outcome = IsFound (IsFunction t) before after (λ r. (put r (monotype argument), put r (monotype outcome)))

-- t is a type of functions
abbrev pub IsSomeFunction : Mono → (ℕ → Monotype) → Type 0
IsSomeFunction t r = (parts : Monotype × Monotype) × IsFunction t r parts
