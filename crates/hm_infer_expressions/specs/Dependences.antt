-- Whether declarations refer only to typed nodes, and the result of judging a group. No public clause names these.
use Rattle.std.specs.Prelude.{◌≡◌, ℕ, Bool, true, false, List, [], Option, Some, Ok, Err, slice_index_or}
use Rattle.std.specs.List.{slice_get}
use Rattle.hm_typing.specs.Names.{IsOneOf}
use Rattle.hm_syntax.specs.Trees.{Declaration}
use Rattle.hm_names.specs.Syntax.{Known}
use Rattle.hm_infer_dependencies.specs.GroupMembers.{AreMembersOf}
use Rattle.hm_infer_dependencies.specs.References.{DeclarationRefers}
use Rattle.hm_names_keys.specs.Variables.{Variable}
use Rattle.hm_infer_dependencies.specs.Walks.{IsNodeWith}
use Rattle.hm_infer_dependencies.specs.declared.members.Member.{Member}
use Rattle.hm_unify.specs.Solving.{Solving}
use Rattle.hm_unify.specs.declared.faults.UnifyFault.TheVariants.{Clash}
use Rattle.hm_infer_context.specs.Environments.{Assumed}
use Rattle.hm_infer_expressions.specs.JudgedGroups.{JudgesGroup}

-- the node is typed, by a table
abbrev pub IsTyped : List Bool → ℕ → Type 0
IsTyped typed k = slice_index_or typed k false ≡ true

abbrev pub IsUntyped : List Bool → ℕ → Type 0
IsUntyped typed k = slice_index_or typed k false ≡ false

-- true: all these nodes are typed; false: one isn't
abbrev pub TellsNodes : Bool → List Bool → (ℕ → Type 0) → Type 0
TellsNodes true typed P = (k : ℕ) → P k → IsTyped typed k
TellsNodes false typed P = (k : ℕ) × (P k × IsUntyped typed k)

-- the declaration refers to the node
abbrev pub IsReferred : List (Option Variable) → Declaration → ℕ → Type 0
IsReferred nodes d k = IsNodeWith nodes (λ y. DeclarationRefers y d) k

-- the same for all members of a group
abbrev pub TellsMembers : Bool → List (Option Variable) → List Bool → List Declaration → List Member → Type 0
TellsMembers true nodes typed decls ms = (m : Member) → IsOneOf m ms → (d : Declaration) → slice_get decls m.place ≡ Some d → TellsNodes true typed (IsReferred nodes d)
TellsMembers false nodes typed decls ms = (m : Member) × (IsOneOf m ms × ((d : Declaration) × ((slice_get decls m.place ≡ Some d) × TellsNodes false typed (IsReferred nodes d))))

-- the nodes of the group have this mark, and all others keep theirs
abbrev pub IsMarked : List ℕ → Bool → List Bool → List Bool → Type 0
IsMarked group value old new = (k : ℕ) → (IsOneOf k group → slice_index_or new k false ≡ value) × (¬ (IsOneOf k group) → slice_index_or new k false ≡ slice_index_or old k false)

-- a group refers to a node without a type; or it has no types; or it has schemes, which are assumed after it
pub data UnitOutcome (k : Known) (decls : List Declaration) (nodes : List (Option Variable)) (group : List ℕ) (ms : List Member) (base es0 es1 : List Assumed) (marked typed1 : List Bool) : Type 0 where
  skipped : TellsMembers false nodes marked decls ms → IsMarked group false marked typed1 → es1 ≡ es0 → UnitOutcome k decls nodes group ms base es0 es1 marked typed1
  untyped : (s0 : Solving) (es2 : List Assumed) → TellsMembers true nodes marked decls ms → s0.equations ≡ [] → JudgesGroup {X = Unit {0}} k decls group base s0 es0 es2 (Err Clash) → IsMarked group false marked typed1 → es1 ≡ es0 →
      UnitOutcome k decls nodes group ms base es0 es1 marked typed1
  typed : (s0 : Solving) → TellsMembers true nodes marked decls ms → s0.equations ≡ [] → JudgesGroup {X = Unit {0}} k decls group base s0 es0 es1 (Ok tt) → typed1 ≡ marked → UnitOutcome k decls nodes group ms base es0 es1 marked typed1

pub record UnitJudged (k : Known) (decls : List Declaration) (nodes : List (Option Variable)) (rows : List (List ℕ)) (group : List ℕ) (base es0 es1 : List Assumed) (typed0 typed1 : List Bool) : Type 0 where
  pub marked : List Bool
  pub is_marked : IsMarked group true typed0 marked
  pub members : List Member
  pub are_members : AreMembersOf rows group members
  pub outcome : UnitOutcome k decls nodes group members base es0 es1 marked typed1
