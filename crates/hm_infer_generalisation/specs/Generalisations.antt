-- The closure of a type under assumptions, up to the numbers of the quantified variables (Damas and Milner 1982, section 5; Haskell 98 Report, section 4.5.2).
use Rattle.std.specs.Prelude.{◌≡◌, ℕ, Bool, List, true, false, ◌↔◌, slice_index_or}
use Rattle.hm_types.specs.Monotypes.{Leaf, Mono, var, rigid}
use Rattle.hm_unify.specs.Unifier.{Equation}
use Rattle.hm_unify.specs.Bindings.{solution}
use Rattle.hm_infer_context.specs.Problems.{number, monotype}
use Rattle.hm_types.specs.Types.{Var, In, put}
use Rattle.hm_typing.specs.Names.{IsOneOf}
use Rattle.hm_typing.specs.Schemes.{Monotype, Scheme, SchemeVariable, Free, Quantified}
use Rattle.hm_typing.specs.Assumptions.{Assumptions, FreeIn}
use Rattle.hm_typing.specs.Generalisation.{quantify}

-- m gives each variable its value under the solution of the equations
abbrev pub IsSolution : List Equation → (ℕ → Monotype) → Type 0
IsSolution es m = (n : ℕ) → (m (number (var n)) ≡ monotype (solution es n)) × (m (number (rigid n)) ≡ Var (number (rigid n)))

-- the kept variables of t are those that are free in A
abbrev pub Keeps : (Leaf → Bool) → Mono → Assumptions → Type 0
Keeps kept t A = (l : Leaf) → In l t → (kept l ≡ true) ↔ FreeIn (number l) A

-- the same for the values of the type variables of these nodes
abbrev pub KeepsEach : (Leaf → Bool) → List Equation → List ℕ → List ℕ → Assumptions → Type 0
KeepsEach kept es types nodes A = (j : ℕ) → IsOneOf j nodes → Keeps kept (solution es (slice_index_or types j 0)) A

-- no variable in the values of these is kept
abbrev pub KeepsNone : (Leaf → Bool) → List Equation → List ℕ → List ℕ → Type 0
KeepsNone kept es types nodes = (j : ℕ) → IsOneOf j nodes → (l : Leaf) → In l (solution es (slice_index_or types j 0)) → kept l ≡ false

-- the quantified variables with other numbers
abbrev pub renumbered : (ℕ → ℕ) → SchemeVariable → Scheme
renumbered slots (Free a) = Var (Free a)
renumbered slots (Quantified a) = Var (Quantified (slots a))

-- σ is the closure of t under A. `back` is the inverse of the numbering
pub record IsGeneralisation (A : Assumptions) (t : Monotype) (σ : Scheme) : Type 0 where
  pub slots : ℕ → ℕ
  pub back : ℕ → ℕ
  pub whole : σ ≡ put (renumbered slots) (quantify A t)
  pub undone : (a : ℕ) → In a t → ¬ (FreeIn a A) → back (slots a) ≡ a
