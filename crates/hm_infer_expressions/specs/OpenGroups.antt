-- The steps before and after the members of a group are checked. Public clauses name only `AreUpTo` and `ChangesOnly` of these.
use Rattle.std.specs.Prelude.{◌≡◌, ℕ, ◌<◌, ◌≤◌, List, Option, length, slice_index_or}
use Rattle.hm_typing.specs.Names.{IsOneOf}
use Rattle.hm_typing.specs.Problems.{MostGeneralUnifier}
use Rattle.hm_syntax.specs.Trees.{Declarations}
use Rattle.hm_names.specs.Syntax.{Known}
use Rattle.hm_infer_dependencies.specs.declared.members.Member.{Member}
use Rattle.hm_infer_dependencies.specs.GroupMembers.{AreMembersOf}
use Rattle.hm_infer_dependencies.specs.Nodes.{list_nodes}
use Rattle.hm_names_keys.specs.Variables.{Variable}
use Rattle.hm_unify.specs.Solving.{Solving}
use Rattle.hm_unify.specs.Levels.{is_outer}
use Rattle.hm_typing.specs.Assumptions.{Assumptions, assumptions_put}
use Rattle.hm_infer_context.specs.Problems.{problem, given_more}
use Rattle.hm_infer_context.specs.Environments.{Assumed, AreAssumed, Extends}
use Rattle.hm_infer_generalisation.specs.Generalisations.{IsSolution, KeepsEach}
use Rattle.hm_infer_expressions.specs.GroupQuestions.{AreGivenTypes}
use Rattle.hm_infer_expressions.specs.BoundNames.{ArePlaced, BindsTypes, BindsSchemes}

-- the type variables of all nodes are at most those that were given
abbrev pub AreUpTo : ℕ → List ℕ → Type 0
AreUpTo given types = (j : ℕ) → j < length types → slice_index_or types j 0 ≤ given

-- a table of type variables changes only at the nodes of a group
abbrev pub ChangesOnly : List ℕ → List ℕ → List ℕ → Type 0
ChangesOnly group types types' = (j : ℕ) → ¬ (IsOneOf j group) → slice_index_or types' j 0 ≡ slice_index_or types j 0

-- the nodes of a group have new type variables, to which its names are bound
pub record IsOpenGroup (nodes : List (Option Variable)) (rows : List (List ℕ)) (group : List ℕ) (s0 : Solving) (es0 : List Assumed) (s1 : Solving) (es1 : List Assumed) (types : List ℕ) (ms : List Member) : Type 0 where
  pub given : s1 ≡ given_more s0 (length group)
  pub placed : ArePlaced s0.given group types
  pub names : (k : Known) (all : Declarations) → nodes ≡ list_nodes all all → BindsTypes k all types group es0 es1
  pub members : AreMembersOf rows group ms
  pub added : Extends es0 es1
  pub numbers : AreGivenTypes s1.given types
  pub assumed : AreAssumed s1.given es1

-- the names of a group are bound to their schemes. Variables in the values of the first `older` variables stay free
abbrev pub IsClosedGroup : List (Option Variable) → List ℕ → List ℕ → ℕ → Solving → List Assumed → List Assumed → Type 0
IsClosedGroup nodes group types older s es0 es1 =
    (m : MostGeneralUnifier (problem s)) × (IsSolution s.equations m.map ×
    ((k : Known) (all : Declarations) → nodes ≡ list_nodes all all → (A : Assumptions) → KeepsEach (is_outer s.equations older) s.equations types group (assumptions_put m.map A) → BindsSchemes k all types m.map A group es0 es1))
