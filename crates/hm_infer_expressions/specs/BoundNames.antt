-- The environment after the names of a group are bound, and during the inference of a list's groups. No public clause names it.
use Rattle.std.specs.Prelude.{◌≡◌, ℕ, ◌+◌, ◌<◌, ◌⊎◌, ◌↔◌, Bool, true, List, [], ◌∷◌, ◌++◌, map, length, slice_index_or}
use Rattle.hm_types.specs.Types.{put}
use Rattle.hm_typing.specs.Names.{Identifier, IsOneOf}
use Rattle.hm_typing.specs.Schemes.{Monotype, Scheme, IsInstance, scheme_put, monomorphic}
use Rattle.hm_typing.specs.Assumptions.{Assumptions, Has, assumptions_put}
use Rattle.hm_typing.specs.Generalisation.{quantify}
use Rattle.hm_typing.specs.Syntax.{Bindings, names}
use Rattle.hm_typing.specs.Units.{IsSigned}
use Rattle.hm_syntax.specs.Trees.{Declarations}
use Rattle.hm_names.specs.Syntax.{Known}
use Rattle.hm_infer_dependencies.specs.Groups.{node_name}
use Rattle.hm_infer_context.specs.Environments.{Assumed, OpenScheme, assumptions, scheme_in}
use Rattle.hm_infer_expressions.specs.Lists.{IsWritten}
use Rattle.hm_infer_expressions.specs.GroupQuestions.{type_at}

-- two schemes have the same instances, for any values of their free variables
abbrev pub SameInstances : Scheme → Scheme → Type 0
SameInstances σ ρ = (r : ℕ → Monotype) (t : Monotype) → IsInstance t (scheme_put r σ) ↔ IsInstance t (scheme_put r ρ)

-- es' assumes for the names xs their schemes in σ, and for all others what es assumes. Only names that a source can mention count
pub record Binds (xs : List Identifier) (σ : Identifier → Scheme) (es es' : List Assumed) : Type 0 where
  pub added : List Assumed
  pub entries : es' ≡ added ++ es
  pub inside : (r : ℕ → Monotype) (x : Identifier) → IsWritten x → IsOneOf x xs → (t : Monotype) → Has (assumptions_put r (assumptions es')) x t ↔ IsInstance t (scheme_put r (σ x))
  pub outside : (r : ℕ → Monotype) (x : Identifier) → IsWritten x → ¬ (IsOneOf x xs) → (t : Monotype) → Has (assumptions_put r (assumptions es')) x t ↔ Has (assumptions_put r (assumptions es)) x t

-- one more name is bound to a scheme
abbrev pub BindsNode : Identifier → OpenScheme → List Assumed → List Assumed → Type 0
BindsNode y s es es' = (xs : List Identifier) (σ : Identifier → Scheme) (base : List Assumed) → Binds xs σ base es → SameInstances (scheme_in s) (σ y) → Binds (xs ++ y ∷ []) σ base es'

-- the names of nodes
abbrev pub names_at : Known → Declarations → List ℕ → List Identifier
names_at k all group = map (node_name k all) group

-- the nodes of the group are bound to their types
abbrev pub BindsTypes : Known → Declarations → List ℕ → List ℕ → List Assumed → List Assumed → Type 0
BindsTypes k all types group es es' = (τ : Identifier → Monotype) → ((j : ℕ) → IsOneOf j group → τ (node_name k all j) ≡ type_at types j) → Binds (names_at k all group) (λ x. monomorphic (τ x)) es es'

-- the nodes of the group are bound to the closures of their types under A, after the solution m
abbrev pub BindsSchemes : Known → Declarations → List ℕ → (ℕ → Monotype) → Assumptions → List ℕ → List Assumed → List Assumed → Type 0
BindsSchemes k all types m A group es es' = (B : Identifier → Scheme) → ((j : ℕ) → IsOneOf j group → B (node_name k all j) ≡ quantify (assumptions_put m A) (put m (type_at types j))) → Binds (names_at k all group) B es es'

-- during the inference of a list's groups: a finished or signed name has its scheme, a name outside the list what A assumes
pub record Sees (ds : Bindings) (A : Assumptions) (finished : Identifier → Bool) (B : Identifier → Scheme) (es : List Assumed) : Type 0 where
  pub known : (r : ℕ → Monotype) (x : Identifier) → IsWritten x → (finished x ≡ true) ⊎ IsSigned x ds → (t : Monotype) → Has (assumptions_put r (assumptions es)) x t ↔ IsInstance t (scheme_put r (B x))
  pub others : (r : ℕ → Monotype) (x : Identifier) → IsWritten x → ¬ (IsOneOf x (names ds)) → (t : Monotype) → Has (assumptions_put r (assumptions es)) x t ↔ Has (assumptions_put r A) x t

-- the types of the nodes of a group are the variables from `first` on
abbrev pub ArePlaced : ℕ → List ℕ → List ℕ → Type 0
ArePlaced first group types = (j : ℕ) → IsOneOf j group → (p : ℕ) × (p < length group) × (slice_index_or group p 0 ≡ j) × (slice_index_or types j 0 ≡ first + p)
