-- A binding list under closed assumptions has principal schemes, or no typing (Damas and Milner 1982, section 6).
use Rattle.std.specs.Prelude.{ℕ, ◌↔◌, List, Result, Ok, Err}
use Rattle.hm_typing.specs.Names.{Identifier}
use Rattle.hm_typing.specs.Schemes.{Monotype, Scheme}
use Rattle.hm_typing.specs.Assumptions.{Has, assumptions_put, bind_all}
use Rattle.hm_typing.specs.Syntax.{Bindings, names}
use Rattle.hm_typing.specs.BindingLists.{HasSchemes, HasPrincipalSchemes}
use Rattle.hm_unify.specs.declared.faults.UnifyFault.{UnifyFault}
use Rattle.hm_unify.specs.declared.faults.UnifyFault.TheVariants.{Clash, Memory}
use Rattle.hm_infer_context.specs.Environments.{Assumed, assumptions}
use Rattle.hm_infer_expressions.specs.Lists.{IsWritten}

-- the environment gives each name that a source can mention the instances of its principal scheme, with some types for free variables
pub record IsInferred (ds : Bindings) (es es' : List Assumed) : Type 0 where
  pub schemes : Identifier → Scheme
  pub principal : HasPrincipalSchemes (assumptions es) ds schemes
  pub map : ℕ → Monotype
  pub seen : (x : Identifier) → IsWritten x → (t : Monotype) → Has (assumptions_put map (assumptions es')) x t ↔ Has (bind_all (names ds) schemes (assumptions es)) x t

abbrev pub Inferred : {X : Type 0} → Bindings → List Assumed → List Assumed → Result X UnifyFault → Type 0
Inferred ds es es' (Ok x) = IsInferred ds es es'
Inferred ds es es' (Err Clash) = (B : Identifier → Scheme) → ¬ (HasSchemes (assumptions es) ds B)
Inferred ds es es' (Err Memory) = Unit {0}
