-- The closure of a type under assumptions (Damas and Milner 1982, section 5; Report 4.5.2).
use Rattle.std.specs.Prelude.{◌≡◌, ℕ, Bool, true, cond, ◌<◌}
use Rattle.hm_types.specs.Types.{Var, In, put}
use Rattle.hm_typing.specs.Schemes.{Monotype, Scheme, SchemeVariable, Free, Quantified}
use Rattle.hm_typing.specs.Assumptions.{Assumptions, FreeIn, assumptions_put}
use Rattle.hm_typing.specs.Decisions.{is_free_in}

-- the variable a in a scheme: quantified, unless it is kept
abbrev pub quantified_unless : {Kept : Type 0} → Dec Kept → ℕ → SchemeVariable
quantified_unless (yes p) a = Free a
quantified_unless (no n) a = Quantified a

-- the scheme of t under A, which quantifies exactly the variables of t that aren't free in A
abbrev pub quantify : Assumptions → Monotype → Scheme
quantify A t = put (λ a. Var (quantified_unless (is_free_in a A) a)) t

-- the scheme that quantifies all variables for which kept is false
abbrev pub quantify_but : (ℕ → Bool) → Monotype → Scheme
quantify_but kept t = put (λ a. Var (cond (kept a) (Free a) (Quantified a))) t

-- after solving by map, kept has the variables that are free in the assumptions, and otherwise only variables in the value of a variable of the outer
-- problem, which is below n
pub record KeepsEnough (A : Assumptions) (n : ℕ) (map : ℕ → Monotype) (kept : ℕ → Bool) : Type 0 where
  pub free : (a : ℕ) → FreeIn a (assumptions_put map A) → kept a ≡ true
  pub outer : (a : ℕ) → kept a ≡ true → (z : ℕ) × (z < n) × In a (map z)
