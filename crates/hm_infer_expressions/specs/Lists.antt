-- The result of inferring a binding list, for the body that follows it.
use Rattle.std.specs.Prelude.{◌≡◌, ℕ, ◌<◌, ◌≤◌, ◌↔◌, List, ◌++◌, Result, Ok, Err}
use Rattle.hm_typing.specs.Names.{Identifier, IsOneOf, local, global, binding}
use Rattle.hm_typing.specs.Schemes.{Monotype, Scheme, IsAtMostAsGeneral, scheme_put, Free}
use Rattle.hm_types.specs.Types.{In}
use Rattle.hm_typing.specs.Assumptions.{Assumptions, FreeIn, Has, assumptions_put, bind_all}
use Rattle.hm_typing.specs.Syntax.{Bindings, names}
use Rattle.hm_typing.specs.SecondForm.{DerivedSchemes}
use Rattle.hm_typing.specs.Problems.{Unifies, FactsBelow}
use Rattle.hm_unify.specs.Solving.{Solving}
use Rattle.hm_unify.specs.declared.faults.UnifyFault.{UnifyFault}
use Rattle.hm_unify.specs.declared.faults.UnifyFault.TheVariants.{Clash, Memory}
use Rattle.hm_infer_context.specs.Problems.{problem, bound}
use Rattle.hm_infer_context.specs.Environments.{Assumed, assumptions, AreAssumed}

-- B is the most general family of schemes that types the list under A, by the problem of s'
pub record IsListed (A : Assumptions) (ds : Bindings) (B : Identifier → Scheme) (s s' : Solving) : Type 0 where
  pub grows : s.given ≤ s'.given
  pub below : FactsBelow (bound s') (problem s')
  pub schemes_below : (x : Identifier) → IsOneOf x (names ds) → (a : ℕ) → In (Free a) (B x) → a < bound s'
  pub inner : (r : ℕ → Monotype) → Unifies r (problem s') → (x : Identifier) → IsOneOf x (names ds) → (a : ℕ) → In (Free a) (scheme_put r (B x)) → FreeIn a (assumptions_put r A)  -- all other variables are quantified
  pub sound : (r : ℕ → Monotype) → Unifies r (problem s') → Unifies r (problem s) × DerivedSchemes (assumptions_put r A) ds (λ x. scheme_put r (B x))
  pub complete : (r : ℕ → Monotype) → Unifies r (problem s) → (B' : Identifier → Scheme) → DerivedSchemes (assumptions_put r A) ds B' →
      (q : ℕ → Monotype) × ((x : ℕ) → x < bound s → q x ≡ r x) × Unifies q (problem s') × ((x : Identifier) → IsOneOf x (names ds) → IsAtMostAsGeneral (B' x) (scheme_put q (B x)))

-- a name that a source can mention. It can't mention a pattern binding's own name
abbrev pub IsWritten : Identifier → Type 0
IsWritten (local x) = Unit {0}
IsWritten (global e) = Unit {0}
IsWritten (binding m k) = ⊥

-- each name that a source can mention has the same instances under both, for any values of the free variables
abbrev pub AreAlike : Assumptions → Assumptions → Type 0
AreAlike A C = (r : ℕ → Monotype) (x : Identifier) → IsWritten x → (t : Monotype) → Has (assumptions_put r A) x t ↔ Has (assumptions_put r C) x t

-- the environment has the names of the list
pub record IsBound (ds : Bindings) (s : Solving) (es : List Assumed) (s' : Solving) (es' : List Assumed) : Type 0 where
  pub schemes : Identifier → Scheme
  pub added : List Assumed
  pub entries : es' ≡ added ++ es
  pub assumed : AreAlike (assumptions es') (bind_all (names ds) schemes (assumptions es))
  pub given : AreAssumed s'.given es'
  pub listed : IsListed (assumptions es) ds schemes s s'

abbrev pub RefusesList : Bindings → Solving → List Assumed → UnifyFault → Type 0
RefusesList ds s es Clash = (r : ℕ → Monotype) → Unifies r (problem s) → (B : Identifier → Scheme) → DerivedSchemes (assumptions_put r (assumptions es)) ds B → ⊥
RefusesList ds s es Memory = Unit {0}

abbrev pub Listed : {X : Type 0} → Bindings → Solving → List Assumed → Solving → List Assumed → Result X UnifyFault → Type 0
Listed ds s es s' es' (Ok x) = IsBound ds s es s' es'
Listed ds s es s' es' (Err e) = RefusesList ds s es e
