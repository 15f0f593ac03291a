-- Types over numbered variables, and schemes, in which a variable is free or quantified (Damas and Milner 1982, sections 2 and 3).
use Rattle.std.specs.Prelude.{◌≡◌, ℕ}
use Rattle.hm_types.specs.declared.Head.TheVariants as head
use Rattle.hm_types.specs.Types.{Ty, Var, App, done, more, put}

abbrev pub Monotype : Type 0
Monotype = Ty ℕ

abbrev pub arrow : Monotype → Monotype → Monotype
arrow t u = App head.Arrow (more t (more u done))

pub data SchemeVariable : Type 0 where
  Free : ℕ → SchemeVariable
  Quantified : ℕ → SchemeVariable

abbrev pub Scheme : Type 0
Scheme = Ty SchemeVariable

-- Instances

-- the replacement of a scheme's variable
abbrev pub fill : (ℕ → Monotype) → (ℕ → Monotype) → SchemeVariable → Monotype
fill r us (Free a) = r a
fill r us (Quantified i) = us i

-- the body with types in place of the quantified variables
abbrev pub instance : Scheme → (ℕ → Monotype) → Monotype
instance σ us = put (fill Var us) σ

abbrev pub IsInstance : Monotype → Scheme → Type 0
IsInstance t σ = (us : ℕ → Monotype) × (t ≡ instance σ us)

-- σ is at most as general as τ: each instance of σ is one of τ
abbrev pub IsAtMostAsGeneral : Scheme → Scheme → Type 0
IsAtMostAsGeneral σ τ = (t : Monotype) → IsInstance t σ → IsInstance t τ

-- Types as schemes

-- nothing is quantified
abbrev pub monomorphic : Monotype → Scheme
monomorphic t = put (λ a. Var (Free a)) t

-- every variable is quantified
abbrev pub closed : Monotype → Scheme
closed t = put (λ a. Var (Quantified a)) t

-- Substitution, which doesn't change quantified variables

abbrev pub variable_put : (ℕ → Monotype) → SchemeVariable → Scheme
variable_put r (Free a) = monomorphic (r a)
variable_put r (Quantified i) = Var (Quantified i)

abbrev pub scheme_put : (ℕ → Monotype) → Scheme → Scheme
scheme_put r σ = put (variable_put r) σ
