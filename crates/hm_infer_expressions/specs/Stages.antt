-- The state between two groups of a list: how the schemes of the finished names relate to the solver's problem. No public clause names these.
use Rattle.std.specs.Prelude.{◌≡◌, ℕ, ◌<◌, ◌≤◌, ◌||◌, Bool, true, false, List, Option, length, Result, Ok, Err}
use Rattle.std.specs.Bool.{Decides}
use Rattle.hm_typing.specs.Names.{Identifier, IsOneOf}
use Rattle.hm_typing.specs.Schemes.{Monotype, Scheme, scheme_put}
use Rattle.hm_typing.specs.Assumptions.{Assumptions, assumptions_put, AreAtMostAsGeneral}
use Rattle.hm_typing.specs.Syntax.{Bindings, names}
use Rattle.hm_typing.specs.Problems.{Unifies, FactsBelow}
use Rattle.hm_typing.specs.Orders.{IsNext, Layout}
use Rattle.hm_typing.proofs.Groups.{Remaining, Stage, AreSchemes}
use Rattle.hm_syntax.specs.Trees.{Declaration}
use Rattle.hm_syntax.specs.Lists.{declarations}
use Rattle.hm_names.specs.Syntax.{Known, bindings_of}
use Rattle.hm_infer_dependencies.specs.Groups.{node_name}
use Rattle.hm_infer_dependencies.specs.Nodes.{list_nodes}
use Rattle.hm_infer_dependencies.specs.Members.{AreRows}
use Rattle.hm_names_keys.specs.Variables.{Variable}
use Rattle.hm_unify.specs.Solving.{Solving}
use Rattle.hm_unify.specs.declared.faults.UnifyFault.{UnifyFault}
use Rattle.hm_infer_context.specs.Problems.{problem, bound}
use Rattle.hm_infer_context.specs.Environments.{Assumed, assumptions, AreAssumed}
use Rattle.hm_infer_expressions.specs.Lists.{RefusesList}
use Rattle.hm_infer_expressions.specs.BoundNames.{Sees, names_at}

-- the rest is checked under assumptions that are at least as general as Γ
abbrev pub Following : Assumptions → Assumptions → (ℕ → Monotype) → Type 0
Following Γ C r = AreAtMostAsGeneral Γ C

-- the finished names have the schemes B: the constraints of s' are those of s, and that
pub record IsStage (ds : Bindings) (L : Layout ds) (A : Assumptions) (finished : Identifier → Bool) (B : Identifier → Scheme) (s s' : Solving) : Type 0 where
  pub grows : s.given ≤ s'.given
  pub below : FactsBelow (bound s') (problem s')
  pub schemes : AreSchemes ds A (bound s') (problem s') B
  pub sound : (r : ℕ → Monotype) → Unifies r (problem s') → Unifies r (problem s) × ((B' : Identifier → Scheme) → ((x : Identifier) → finished x ≡ true → B' x ≡ scheme_put r (B x)) → Remaining L.own (names ds) finished (assumptions_put r A) B' ds → Remaining L.own (names ds) (λ x. false) (assumptions_put r A) B' ds)
  pub complete : (r : ℕ → Monotype) → Unifies r (problem s) → (Γ : Assumptions) → Stage L.own ds (Following Γ) A (λ x. false) L.declared r →
      (q : ℕ → Monotype) × ((x : ℕ) → x < bound s → q x ≡ r x) × Unifies q (problem s') × Stage L.own ds (Following Γ) A finished B q

-- the binding list of these declarations
abbrev pub list_of : Known → List Declaration → Bindings
list_of k decls = bindings_of k (declarations decls) (declarations decls)

-- no two nodes of a list have the same name
abbrev pub AreApart : Known → List Declaration → ℕ → Type 0
AreApart k decls n = (i j : ℕ) → i < n → j < n → node_name k (declarations decls) i ≡ node_name k (declarations decls) j → i ≡ j

-- after a group: its names are finished too; or the list has no typing
abbrev pub AfterGroup : {X : Type 0} (ds : Bindings) → Layout ds → List Assumed → (Identifier → Bool) → (Identifier → Bool) → Solving → Solving → List Assumed → Result X UnifyFault → Type 0
AfterGroup ds L base finished g s s1 es1 (Ok x) = (B : Identifier → Scheme) × (IsStage ds L (assumptions base) (λ y. finished y || g y) B s s1 × Sees ds (assumptions base) (λ y. finished y || g y) B es1)
AfterGroup ds L base finished g s s1 es1 (Err e) = RefusesList ds s base e

-- inferring the next group of a list, from any stage
abbrev pub InfersGroup : {X : Type 0} → Known → List Declaration → List ℕ → List Assumed → Solving → List Assumed → Solving → List Assumed → Result X UnifyFault → Type 0
InfersGroup k decls group base s0 es0 s1 es1 outcome =
    (L : Layout (list_of k decls)) (finished g : Identifier → Bool) (B : Identifier → Scheme) (s : Solving) → IsNext (list_of k decls) L.own finished g → ((y : Identifier) → Decides (g y) (IsOneOf y (names_at k (declarations decls) group))) → AreAssumed s.given base →
    IsStage (list_of k decls) L (assumptions base) finished B s s0 → Sees (list_of k decls) (assumptions base) finished B es0 → AfterGroup (list_of k decls) L base finished g s s1 es1 outcome

-- if the assumptions outside the list and the environment have no free variables, they have none after the group
abbrev pub ClosesGroup : Known → List Declaration → List ℕ → List Assumed → Solving → List Assumed → List Assumed → Type 0
ClosesGroup k decls group base s0 es0 es1 =
    (L : Layout (list_of k decls)) (finished g : Identifier → Bool) (B : Identifier → Scheme) (s : Solving) → IsNext (list_of k decls) L.own finished g → ((y : Identifier) → Decides (g y) (IsOneOf y (names_at k (declarations decls) group))) → AreAssumed s.given base →
    IsStage (list_of k decls) L (assumptions base) finished B s s0 → Sees (list_of k decls) (assumptions base) finished B es0 → AreAssumed 0 base → AreAssumed 0 es0 → AreAssumed 0 es1

-- the nodes of a list, which are distinct, and the rows of its declarations
pub record IsListFound (k : Known) (decls : List Declaration) (nodes : List (Option Variable)) (rows : List (List ℕ)) : Type 0 where
  pub nodes_are : nodes ≡ list_nodes (declarations decls) (declarations decls)
  pub rows_are : AreRows decls (length nodes) rows
  pub apart : AreApart k decls (length nodes)
