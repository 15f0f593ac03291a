-- The places where the faulty units of a list begin. No public clause names these.
use Rattle.std.specs.Prelude.{◌≡◌, ℕ, ◌<◌, ◌++◌, Bool, true, false, List, [], ◌∷◌, Option, length, slice_index_or}
use Rattle.hm_graph_components.specs.Digraph.{Edge}
use Rattle.hm_typing.specs.Assumptions.{Assumptions}
use Rattle.hm_typing.specs.Names.{Identifier as Name, IsOneOf}
use Rattle.hm_typing.specs.Syntax.{names}
use Rattle.hm_typing.specs.Verdicts.{IsFirstIn, IsTypeFault}
use Rattle.hm_infer_dependencies.specs.GroupMembers.{AreMembersOf}
use Rattle.hm_infer_dependencies.specs.declared.members.Member.{Member}
use Rattle.hm_syntax.specs.Trees.{Declaration}
use Rattle.hm_syntax.specs.Lists.{declarations}
use Rattle.hm_typing.specs.Orders.{AreNumberedGroups}
use Rattle.hm_typing.specs.Units.{IsSigned, IsUnsigned}
use Rattle.hm_infer_dependencies.specs.Groups.{node_name}
use Rattle.hm_names_keys.specs.Variables.{Variable}
use Rattle.hm_names.specs.Cores.{IsSomeCore, known, syntax_of}
use Rattle.hm_names.specs.Syntax.{Known}
use Rattle.hm_infer_context.specs.Environments.{Assumed, AreAssumed, assumptions}
use Rattle.hm_infer.specs.JudgedUnits.{UnitsJudged}
use Rattle.hm_infer_expressions.specs.Stages.{IsListFound, list_of}
use Rattle.hm_names.specs.ModuleCores.{ModuleCore}
use Rattle.hm_infer.specs.Told.{IsStart}
use Rattle.hm_infer_results.specs.UnitFaults.{AreGroupsTold, IsFirstPlace}

-- the first place of a group's declarations
pub record IsStartOf (rows : List (List ℕ)) (group : List ℕ) (p : ℕ) : Type 0 where
  pub members : List Member
  pub are_members : AreMembersOf rows group members
  pub first : IsFirstPlace members p

-- the i-th group is a fault, and this is its first place
pub record IsFaultStart (rows gs : List (List ℕ)) (faulty : List Bool) (i p : ℕ) : Type 0 where
  pub inside : i < length gs
  pub fault : slice_index_or faulty i false ≡ true
  pub start : IsStartOf rows (slice_index_or gs i []) p

-- the first places of the faulty groups among the first n
pub record AreGroupStarts (rows gs : List (List ℕ)) (faulty : List Bool) (n : ℕ) (starts : List ℕ) : Type 0 where
  pub each : (i : ℕ) → i < n → i < length gs → slice_index_or faulty i false ≡ true → (p : ℕ) × (IsOneOf p starts × IsFaultStart rows gs faulty i p)
  pub back : (p : ℕ) → IsOneOf p starts → (i : ℕ) × IsFaultStart rows gs faulty i p

-- the first places of the faulty groups, by a table of the nodes that have types
pub record AreUnsignedStarts (ds : List Declaration) (nodes : List (Option Variable)) (rows gs : List (List ℕ)) (table : List Bool) (starts : List ℕ) : Type 0 where
  pub faulty : List Bool
  pub told : AreGroupsTold ds nodes rows gs table faulty
  pub starts_are : AreGroupStarts rows gs faulty (length gs) starts

-- the first place was added if the group is a fault
abbrev pub AddsStart : Bool → List (List ℕ) → List ℕ → List ℕ → List ℕ → Type 0
AddsStart true rows group old new = (p : ℕ) × ((new ≡ old ++ p ∷ []) × IsStartOf rows group p)
AddsStart false rows group old new = new ≡ old

-- a group has a declaration
abbrev pub HasMember : List (List ℕ) → List ℕ → Type 0
HasMember rows g = (m : Member) × (IsOneOf m.node g × Edge rows m.node m.place)

-- the first places of a core's faulty units of the kind K
pub record AreStartsOfKind (c : ModuleCore) (A : Assumptions) (K : Name → Type 0) (starts : List ℕ) : Type 0 where
  pub each : (x : Name) → K x → IsFirstIn (syntax_of c) x (names (syntax_of c)) → IsTypeFault A (syntax_of c) x → (p : ℕ) × (IsOneOf p starts × IsStart c c.decls x p)
  pub back : (p : ℕ) → IsOneOf p starts → (x : Name) × (IsFirstIn (syntax_of c) x (names (syntax_of c)) × (IsTypeFault A (syntax_of c) x × IsStart c c.decls x p))

-- a list of declarations that is some core's
pub record IsCoreList (k : Known) (ds : List Declaration) : Type 0 where
  pub core : ModuleCore
  pub is_core : IsSomeCore core
  pub known_is : known core ≡ k
  pub decls_are : core.decls ≡ ds

-- if all units without signatures are judged, these are the first declarations of the faults among the bindings with signatures
abbrev pub TellsSigned : Known → List Declaration → List (Option Variable) → List (List ℕ) → List (List ℕ) → List Assumed → List Bool → List ℕ → Type 0
TellsSigned k ds nodes rows gs es table starts = (o : IsCoreList k ds) (base : List Assumed) → AreAssumed 0 base → IsListFound k ds nodes rows → AreNumberedGroups (list_of k ds) (node_name k (declarations ds)) (length nodes) gs → UnitsJudged k ds gs (length nodes) (length gs) base es table →
    AreStartsOfKind o.core (assumptions base) (λ x. IsSigned x (syntax_of o.core)) starts

-- the first declarations of all faulty units of a core
pub record AreFaultStarts (c : ModuleCore) (A : Assumptions) (starts : List ℕ) : Type 0 where
  pub without : List ℕ
  pub unsigned_ones : AreStartsOfKind c A (λ x. IsUnsigned x (syntax_of c)) without
  pub with_signatures : List ℕ
  pub signed_ones : AreStartsOfKind c A (λ x. IsSigned x (syntax_of c)) with_signatures
  pub all : starts ≡ without ++ with_signatures
