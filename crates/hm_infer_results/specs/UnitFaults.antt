-- The groups of a list that are faults, by a table of the nodes that have types. No public clause names these.
use Rattle.std.specs.Prelude.{◌≡◌, ℕ, ◌<◌, ◌≤◌, Bool, true, false, List, [], ◌∷◌, Option, length, slice_index_or}
use Rattle.hm_typing.specs.Names.{IsOneOf}
use Rattle.hm_syntax.specs.Trees.{Declaration}
use Rattle.hm_infer_dependencies.specs.GroupMembers.{AreMembersOf}
use Rattle.hm_names_keys.specs.Variables.{Variable}
use Rattle.hm_infer_dependencies.specs.declared.members.Member.{Member}
use Rattle.hm_infer_expressions.specs.Dependences.{IsMarked, IsTyped, IsUntyped, TellsMembers}

-- the same nodes are typed
abbrev pub IsSameTable : List Bool → List Bool → Type 0
IsSameTable old new = (j : ℕ) → slice_index_or new j false ≡ slice_index_or old j false

-- all nodes of the group are typed, or none is
abbrev pub AreAlike : List ℕ → List Bool → Type 0
AreAlike group typed = (i j : ℕ) → IsOneOf i group → IsOneOf j group → slice_index_or typed i false ≡ slice_index_or typed j false

-- true: the group has no types, though all nodes outside that it refers to have; false: it has types, or a node outside that it refers to hasn't
pub data GroupTold (decls : List Declaration) (nodes : List (Option Variable)) (rows : List (List ℕ)) (group : List ℕ) (typed : List Bool) (b : Bool) : Type 0 where
  has_types : (j : ℕ) → IsOneOf j group → IsTyped typed j → b ≡ false → GroupTold decls nodes rows group typed b
  has_none : (j : ℕ) → IsOneOf j group → IsUntyped typed j → (marked : List Bool) → IsMarked group true typed marked → (ms : List Member) → AreMembersOf rows group ms → TellsMembers b nodes marked decls ms → GroupTold decls nodes rows group typed b

-- the conditions of a loop over the groups
pub record ArePlainGroups (gs : List (List ℕ)) (n : ℕ) (typed : List Bool) : Type 0 where
  pub below : (g : List ℕ) → IsOneOf g gs → (j : ℕ) → IsOneOf j g → j < n
  pub some : (g : List ℕ) → IsOneOf g gs → 0 < length g
  pub alike : (g : List ℕ) → IsOneOf g gs → AreAlike g typed

-- for each group, whether it is a fault
abbrev pub AreGroupsTold : List Declaration → List (Option Variable) → List (List ℕ) → List (List ℕ) → List Bool → List Bool → Type 0
AreGroupsTold decls nodes rows [] typed [] = Unit {0}
AreGroupsTold decls nodes rows [] typed (b ∷ bs) = ⊥
AreGroupsTold decls nodes rows (g ∷ gs) typed [] = ⊥
AreGroupsTold decls nodes rows (g ∷ gs) typed (b ∷ bs) = GroupTold decls nodes rows g typed b × AreGroupsTold decls nodes rows gs typed bs

-- the least place of a member
abbrev pub IsFirstPlace : List Member → ℕ → Type 0
IsFirstPlace ms place = ((m : Member) × (IsOneOf m ms × (m.place ≡ place))) × ((o : Member) → IsOneOf o ms → place ≤ o.place)
