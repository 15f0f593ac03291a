-- Assignments of closed schemes to the top-level variables of a set of modules (Report 5: modules share entities; Damas and Milner 1982, section 5: principal).
-- Why: docs/DECISIONS.md, "Principal schemes".
use Rattle.std.specs.Prelude.{◌≡◌, ℕ, List}
use Rattle.hm_typing.specs.Names.{Identifier, IsOneOf}
use Rattle.hm_typing.specs.Schemes.{Monotype, IsAtMostAsGeneral, closed}
use Rattle.hm_typing.specs.Assumptions.{Assumptions, empty, bind_all}
use Rattle.hm_typing.specs.Syntax.{Bindings, names}
use Rattle.hm_typing.specs.BindingLists.{HasSchemes}

-- a module with resolved names
pub record Module : Type 0 where
  pub imports : List ℕ  -- the numbers of the imported modules
  pub scope : List Identifier  -- the variables of imported modules and of Prelude that it may use
  pub bindings : Bindings  -- its own

-- an assignment gives each entity the body of its scheme. All variables of the body are quantified
abbrev pub Assignment : Type 0
Assignment = Identifier → Monotype

-- the assumptions of a module about the entities in its scope
abbrev pub outer : Module → Assignment → Assumptions
outer m S = bind_all m.scope (λ x. closed (S x)) empty

-- S types each of the modules for which M holds, and gives Prelude's variables their schemes of the table
pub record IsValid (set : ℕ → Module) (M : ℕ → Type 0) (prelude : List Identifier) (table : Assignment) (S : Assignment) : Type 0 where
  pub given : (x : Identifier) → IsOneOf x prelude → S x ≡ table x
  pub typed : (i : ℕ) → M i → HasSchemes (outer (set i) S) (set i).bindings (λ x. closed (S x))

-- S is valid, and each name has in it a scheme at least as general as in every other valid assignment
pub record IsPrincipal (set : ℕ → Module) (M : ℕ → Type 0) (prelude : List Identifier) (table : Assignment) (S : Assignment) : Type 0 where
  pub valid : IsValid set M prelude table S
  pub most : (S' : Assignment) → IsValid set M prelude table S' → (i : ℕ) (x : Identifier) → M i → IsOneOf x (names (set i).bindings) → IsAtMostAsGeneral (closed (S' x)) (closed (S x))
