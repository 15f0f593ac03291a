-- The numbers of the nodes of a list, in a table. No public clause names it.
use Rattle.std.specs.Prelude.{◌≡◌, List, ℕ, Option, None, Some, option_map, map, drop}
use Rattle.std.specs.List.{slice_get}
use Rattle.hm_names_keys.specs.declared.lent_names.LentName.{LentName}
use Rattle.hm_names_keys.specs.Variables.{Variable}
use Rattle.hm_names_keys.specs.Keys.{Table, number_of, variable_of_key}
use Rattle.hm_infer_dependencies.specs.declared.numbers.Qualifiers.{Qualifiers}
use Rattle.hm_infer_dependencies.specs.declared.numbers.Qualifiers.TheVariants.{Nothing, One, Several}

abbrev pub nodes_of : List (Option LentName) → List (Option Variable)
nodes_of ks = map (option_map variable_of_key) ks

-- the variable is one of the nodes
abbrev pub IsNode : List (Option Variable) → Variable → Type 0
IsNode nodes x = (k : ℕ) × (slice_get nodes k ≡ Some (Some x))

-- the number of nodes that need no place in the table
abbrev pub few : ℕ
few = 6

-- the table has the number of each variable among the nodes after the first few, and each variable is a node once
pub record IsNumbering (nodes : List (Option Variable)) (table : Table) : Type 0 where
  pub some : (x : Variable) (k : ℕ) → number_of table x ≡ Some k → slice_get nodes k ≡ Some (Some x)
  pub none : (x : Variable) → number_of table x ≡ None → ¬ (IsNode (drop few nodes) x)
  pub once : (x : Variable) (j k : ℕ) → slice_get nodes j ≡ Some (Some x) → slice_get nodes k ≡ Some (Some x) → j ≡ k

-- a variable with this qualifier, or without one, may be among the nodes
abbrev pub MayHave : Qualifiers → Option (List ℕ) → Type 0
MayHave Nothing q = ⊥
MayHave (One p) q = option_map (λ t. t.now) p ≡ q
MayHave Several q = Unit {0}

-- the nodes have their numbers, and no other qualifiers than these
pub record AreNumbered (nodes : List (Option Variable)) (table : Table) (qualifiers : Qualifiers) : Type 0 where
  pub numbered : IsNumbering nodes table
  pub qualified : (x : Variable) → IsNode nodes x → MayHave qualifiers x.qualifier
