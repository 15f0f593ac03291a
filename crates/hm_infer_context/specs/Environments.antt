-- The assumptions about names, as the program stores them.
use Rattle.std.specs.Prelude.{◌≡◌, ℕ, ◌+◌, ◌-◌, nat_lt, Bool, cond, List, [], ◌∷◌, ◌++◌, ◌⊎◌, refl}
use Rattle.std.specs.Coded.{Coded, code_by, coded×, coded_ℕ}
use Rattle.hm_types.specs.Types.{Var, put}
use Rattle.hm_types.specs.Monotypes.{Leaf, Mono, var, rigid}
use Rattle.hm_types.specs.Codes.{coded_mono}
use Rattle.hm_typing.specs.Schemes.{Monotype, Scheme, SchemeVariable, Free, Quantified, fill}
use Rattle.hm_typing.specs.Assumptions.{Assumptions, empty, bind}
use Rattle.hm_typing.specs.Names.{Identifier}
use Rattle.hm_infer_context.specs.Problems.{number}
use Rattle.hm_unify.specs.WellFormed.{IsWellFormed}
use Rattle.hm_infer_context.specs.Keys.{coded_name}
use Rattle.hm_infer_context.specs.Patterns.{Variable}

-- a scheme that may have free variables. Those below `quantified` are quantified. Each other one, rigid or not, stands for the solver's variable whose number is less by `quantified`
pub record OpenScheme : Type 0 where
  pub quantified : ℕ
  pub body : Mono

abbrev pub slot : ℕ → Leaf → SchemeVariable
slot q (var n) = cond (nat_lt n q) (Quantified n) (Free (number (var (n - q))))
slot q (rigid n) = cond (nat_lt n q) (Quantified n) (Free (number (rigid (n - q))))

-- the scheme in the terms of the typing relation
abbrev pub scheme_in : OpenScheme → Scheme
scheme_in s = put (λ l. Var (slot s.quantified l)) s.body

abbrev pub coded_open_scheme : Coded OpenScheme
coded_open_scheme = code_by (ℕ × Mono) (coded× coded_ℕ coded_mono) (λ s. (s.quantified, s.body)) (λ p. record { quantified = p.0; body = p.1 }) (λ _. refl)

-- a name with its scheme
pub record Assumed : Type 0 where
  pub name : Identifier
  pub scheme : OpenScheme

abbrev pub coded_assumed : Coded Assumed
coded_assumed = code_by (Identifier × OpenScheme) (coded× coded_name coded_open_scheme) (λ s. (s.name, s.scheme)) (λ p. record { name = p.0; scheme = p.1 }) (λ _. refl)

-- the assumptions, the innermost first
abbrev pub assumptions : List Assumed → Assumptions
assumptions [] = empty
assumptions (e ∷ es) = bind e.name (scheme_in e.scheme) (assumptions es)

-- the innermost assumption about x has the scheme s
abbrev pub IsSchemeOf : Identifier → OpenScheme → List Assumed → Type 0
IsSchemeOf x s [] = ⊥
IsSchemeOf x s (e ∷ es) = ((e.name ≡ x) × (e.scheme ≡ s)) ⊎ (¬ (e.name ≡ x) × IsSchemeOf x s es)

abbrev pub assumed_names : List Assumed → List Identifier
assumed_names [] = []
assumed_names (e ∷ es) = e.name ∷ assumed_names es

-- the free variables of the schemes have numbers below g, and their type constructors have all their arguments
abbrev pub AreAssumed : ℕ → List Assumed → Type 0
AreAssumed g [] = Unit {0}
AreAssumed g (e ∷ es) = IsWellFormed (e.scheme.quantified + g) e.scheme.body × AreAssumed g es

-- es' has the assumptions of es, and maybe others inside them
abbrev pub Extends : List Assumed → List Assumed → Type 0
Extends es es' = (added : List Assumed) × (es' ≡ added ++ es)

-- variables of patterns, as assumptions without quantified variables
abbrev pub monomorphic_entries : List Variable → List Assumed
monomorphic_entries [] = []
monomorphic_entries (v ∷ vs) = record { name = v.name; scheme = record { quantified = 0; body = v.ty } } ∷ monomorphic_entries vs

-- the n-th variable from `base` on, rigid or not
abbrev pub quantified_leaf : Bool → ℕ → ℕ → Leaf
quantified_leaf is_rigid base n = cond is_rigid (rigid (base + n)) (var (base + n))

-- a leaf of a scheme's body, in the instance whose quantified variables are those from `base` on, rigid or not
abbrev pub opened : Bool → ℕ → ℕ → Leaf → Mono
opened is_rigid q base (var n) = Var (cond (nat_lt n q) (quantified_leaf is_rigid base n) (var (n - q)))
opened is_rigid q base (rigid n) = Var (cond (nat_lt n q) (quantified_leaf is_rigid base n) (rigid (n - q)))

-- t is an instance of the scheme with the substitution r in its free variables
abbrev pub IsInstanceUnder : OpenScheme → (ℕ → Monotype) → Monotype → Type 0
IsInstanceUnder s r t = (us : ℕ → Monotype) × (t ≡ put (fill r us) (scheme_in s))
