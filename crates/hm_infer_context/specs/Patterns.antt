-- The variables of patterns with their types, and the matching of patterns against types.
use Rattle.std.specs.Prelude.{◌≡◌, ℕ, ◌+◌, ◌<◌, ◌≤◌, List, [], ◌∷◌, ◌++◌, Bool, cond, ◌⊎◌, Result, Ok, Err, refl}
use Rattle.std.specs.Coded.{Coded, code_by, coded×}
use Rattle.hm_types.specs.Types.{Var, put}
use Rattle.hm_types.specs.Monotypes.{Mono, var}
use Rattle.hm_types.specs.Codes.{coded_mono}
use Rattle.hm_typing.specs.Names.{Identifier, IsOneOf}
use Rattle.hm_typing.specs.Schemes.{Monotype}
use Rattle.hm_typing.specs.Problems.{Unifies, FactsBelow}
use Rattle.hm_unify.specs.Solving.{Solving}
use Rattle.hm_unify.specs.WellFormed.{IsWellFormed}
use Rattle.hm_unify.specs.declared.faults.UnifyFault.{UnifyFault}
use Rattle.hm_unify.specs.declared.faults.UnifyFault.TheVariants.{Clash, Memory}
use Rattle.hm_infer_context.specs.Problems.{number, monotype, problem, bound}
use Rattle.hm_infer_context.specs.Keys.{coded_name}

-- a variable of a pattern, and its type
pub record Variable : Type 0 where
  pub name : Identifier
  pub ty : Mono

abbrev pub coded_variable : Coded Variable
coded_variable = code_by (Identifier × Mono) (coded× coded_name coded_mono) (λ s. (s.name, s.ty)) (λ p. record { name = p.0; ty = p.1 }) (λ _. refl)

-- the names, the innermost first
abbrev pub names_of : List Variable → List Identifier
names_of [] = []
names_of (v ∷ vs) = v.name ∷ names_of vs

-- each variable has its type in τ
abbrev pub HaveTypes : (Identifier → Monotype) → List Variable → Type 0
HaveTypes τ [] = Unit {0}
HaveTypes τ (v ∷ vs) = (monotype v.ty ≡ τ (v.name)) × HaveTypes τ vs

-- a variable of this name has the type t
abbrev pub IsTypeOf : Identifier → Mono → List Variable → Type 0
IsTypeOf x t [] = ⊥
IsTypeOf x t (v ∷ vs) = ((v.name ≡ x) × (v.ty ≡ t)) ⊎ IsTypeOf x t vs

abbrev pub AreGiven : ℕ → List Variable → Type 0
AreGiven g [] = Unit {0}
AreGiven g (v ∷ vs) = IsWellFormed g v.ty × AreGiven g vs

-- the types of τ with the substitution r in them
abbrev pub put_each : (ℕ → Monotype) → (Identifier → Monotype) → Identifier → Monotype
put_each r τ x = put r (τ x)

-- for each of the names, ρ has the type of τ with r in it
abbrev pub Continues : List Identifier → (ℕ → Monotype) → (Identifier → Monotype) → (Identifier → Monotype) → Type 0
Continues xs r τ ρ = (x : Identifier) → IsOneOf x xs → put r (τ x) ≡ ρ x

-- Matching adds a constraint on the types of variables and on unifiers. The state s with variables vs of the types τ becomes the state s' with variables vs' of the types τ'. The names xs are new
pub record IsMatched (Asked : (Identifier → Monotype) → (ℕ → Monotype) → Type 0) (xs : List Identifier) (s : Solving) (vs : List Variable) (τ : Identifier → Monotype) (s' : Solving) (vs' : List Variable) (τ' : Identifier → Monotype) : Type 0 where
  pub grows : s.given ≤ s'.given
  pub below : FactsBelow (bound s') (problem s')
  pub names : names_of vs' ≡ xs ++ names_of vs
  pub typed : HaveTypes τ' vs'
  pub given : AreGiven s'.given vs'
  pub stay : (x : Identifier) → IsOneOf x (names_of vs) → τ' x ≡ τ x
  pub sound : (r : ℕ → Monotype) → Unifies r (problem s') → Unifies r (problem s) × Asked (put_each r τ') r
  pub complete : (r : ℕ → Monotype) (ρ : Identifier → Monotype) → Unifies r (problem s) → Continues (names_of vs) r τ ρ → Asked ρ r →
      (q : ℕ → Monotype) × ((x : ℕ) → x < bound s → q x ≡ r x) × Unifies q (problem s') × Continues (names_of vs') q τ' ρ

abbrev pub HasNoMatch : ((Identifier → Monotype) → (ℕ → Monotype) → Type 0) → Solving → List Variable → (Identifier → Monotype) → Type 0
HasNoMatch Asked s vs τ = (r : ℕ → Monotype) (ρ : Identifier → Monotype) → Unifies r (problem s) → Continues (names_of vs) r τ ρ → Asked ρ r → ⊥

abbrev pub RefusesMatch : ((Identifier → Monotype) → (ℕ → Monotype) → Type 0) → Solving → List Variable → (Identifier → Monotype) → UnifyFault → Type 0
RefusesMatch Asked s vs τ Clash = HasNoMatch Asked s vs τ
RefusesMatch Asked s vs τ Memory = Unit {0}

-- the result of a step of matching, for any types of the variables before it
abbrev pub Matched : {X : Type 0} → ((Identifier → Monotype) → (ℕ → Monotype) → Type 0) → List Identifier → Solving → List Variable → Solving → List Variable → Result X UnifyFault → Type 0
Matched Asked xs s vs s' vs' (Ok x) = (τ : Identifier → Monotype) → HaveTypes τ vs → (τ' : Identifier → Monotype) × IsMatched Asked xs s vs τ s' vs' τ'
Matched Asked xs s vs s' vs' (Err e) = (τ : Identifier → Monotype) → HaveTypes τ vs → RefusesMatch Asked s vs τ e

-- New variables of the solver

-- the j-th variable from `first` on, or always the first
abbrev pub from_number : Bool → ℕ → ℕ → Monotype
from_number same first j = Var (number (var (cond same first (first + j))))
