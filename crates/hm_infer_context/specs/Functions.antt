-- Opening a function: its type is split, its patterns are matched, and assumptions are made about their variables.
use Rattle.std.specs.Prelude.{◌≡◌, ℕ, ◌<◌, ◌≤◌, List, ◌++◌, Result, Ok, Err}
use Rattle.hm_types.specs.Types.{Var, put}
use Rattle.hm_types.specs.Monotypes.{Mono, var}
use Rattle.hm_typing.specs.Names.{Identifier, IsOneOf}
use Rattle.hm_typing.specs.Schemes.{Monotype, monomorphic}
use Rattle.hm_typing.specs.Assumptions.{bind_all}
use Rattle.hm_typing.specs.Syntax.{Patterns, patterns_names, pattern_count}
use Rattle.hm_typing.specs.Patterns.{arrows, MatchesAll}
use Rattle.hm_typing.specs.Problems.{Unifies, FactsBelow}
use Rattle.hm_unify.specs.Solving.{Solving}
use Rattle.hm_unify.specs.WellFormed.{IsWellFormed}
use Rattle.hm_unify.specs.declared.faults.UnifyFault.{UnifyFault}
use Rattle.hm_unify.specs.declared.faults.UnifyFault.TheVariants.{Clash, Memory}
use Rattle.hm_infer_context.specs.Problems.{monotype, problem, bound}
use Rattle.hm_infer_context.specs.Environments.{Assumed, assumptions, AreAssumed}
use Rattle.hm_infer_context.specs.Patterns.{put_each}

-- v is the type of functions to u from types that the patterns have
pub record IsOpened (ps : Patterns) (v : Monotype) (u : Mono) (s : Solving) (es : List Assumed) (s' : Solving) (es' : List Assumed) : Type 0 where
  pub types : Identifier → Monotype
  pub added : List Assumed
  pub entries : es' ≡ added ++ es
  pub assumed : assumptions es' ≡ bind_all (patterns_names ps) (λ x. monomorphic (types x)) (assumptions es)
  pub given : AreAssumed s'.given es'
  pub result_given : IsWellFormed s'.given u
  pub grows : s.given ≤ s'.given
  pub below : FactsBelow (bound s') (problem s')
  pub sound : (r : ℕ → Monotype) → Unifies r (problem s') → Unifies r (problem s) × ((us : ℕ → Monotype) × ((put r v ≡ arrows (pattern_count ps) us 0 (put r (monotype u))) × MatchesAll (put_each r types) ps us 0))
  pub complete : (r : ℕ → Monotype) (ρ : Identifier → Monotype) (us : ℕ → Monotype) (w : Monotype) → Unifies r (problem s) → put r v ≡ arrows (pattern_count ps) us 0 w → MatchesAll ρ ps us 0 →
      (q : ℕ → Monotype) × ((x : ℕ) → x < bound s → q x ≡ r x) × Unifies q (problem s') × ((x : Identifier) → IsOneOf x (patterns_names ps) → put q (types x) ≡ ρ x) × (put q (monotype u) ≡ w)

abbrev pub RefusesOpening : Patterns → Monotype → Solving → UnifyFault → Type 0
RefusesOpening ps v s Clash = (r : ℕ → Monotype) (ρ : Identifier → Monotype) (us : ℕ → Monotype) (w : Monotype) → Unifies r (problem s) → put r v ≡ arrows (pattern_count ps) us 0 w → MatchesAll ρ ps us 0 → ⊥
RefusesOpening ps v s Memory = Unit {0}

abbrev pub Opened : Patterns → Monotype → Solving → List Assumed → Solving → List Assumed → Result ℕ UnifyFault → Type 0
Opened ps v s es s' es' (Ok n) = IsOpened ps v (Var (var n)) s es s' es'
Opened ps v s es s' es' (Err e) = RefusesOpening ps v s e

-- the same with the type u of the body
abbrev pub Entered : {X : Type 0} → Patterns → Monotype → Mono → Solving → List Assumed → Solving → List Assumed → Result X UnifyFault → Type 0
Entered ps v u s es s' es' (Ok x) = IsOpened ps v u s es s' es'
Entered ps v u s es s' es' (Err e) = RefusesOpening ps v s e
