-- A walk over a tree, which finds the numbers of the nodes to which it refers. No public clause names it.
use Rattle.std.specs.Prelude.{◌≡◌, ℕ, ◌⊎◌, ◌↔◌, Bool, true, false, List, length, slice_index_or, Option, Some, Contains}
use Rattle.std.specs.List.{slice_get}
use Rattle.hm_typing.specs.Names.{IsOneOf}
use Rattle.hm_names_keys.specs.Variables.{Variable}

-- the node k is a variable for which P holds
pub record IsNodeWith (nodes : List (Option Variable)) (P : Variable → Type 0) (k : ℕ) : Type 0 where
  pub variable : Variable
  pub node : slice_get nodes k ≡ Some (Some variable)
  pub holds : P variable

abbrev pub IsShown : List Bool → ℕ → Type 0
IsShown shown k = slice_index_or shown k false ≡ true

-- the found numbers are the old ones, and those of the shown nodes for which P holds
abbrev pub Finds : List (Option Variable) → List Bool → (Variable → Type 0) → List ℕ → List ℕ → Type 0
Finds nodes shown P old new = (k : ℕ) → Contains new k ↔ (Contains old k ⊎ (IsShown shown k × IsNodeWith nodes P k))

-- a walk over a part that refers to the variables for which P holds. Shown nodes stay shown
pub record Walks (nodes : List (Option Variable)) (P : Variable → Type 0) (shown shown' : List Bool) (old new : List ℕ) : Type 0 where
  pub same : shown' ≡ shown
  pub finds : Finds nodes shown P old new

-- the shown nodes in xs become hidden, and are recorded
pub record Hides (nodes : List (Option Variable)) (xs : List Variable) (old new : List Bool) (noted_old noted_new : List ℕ) : Type 0 where
  pub size : length new ≡ length old
  pub stays : (k : ℕ) → IsShown new k ↔ (IsShown old k × ¬ (IsNodeWith nodes (λ y. IsOneOf y xs) k))
  pub noted : (k : ℕ) → Contains noted_new k ↔ (Contains noted_old k ⊎ (IsShown old k × IsNodeWith nodes (λ y. IsOneOf y xs) k))
  pub kept : (k : ℕ) → IsShown old k → IsShown new k ⊎ Contains noted_new k

-- the recorded numbers are shown again
pub record Shows (noted : List ℕ) (old new : List Bool) : Type 0 where
  pub size : length new ≡ length old
  pub shown : (k : ℕ) → IsShown new k ↔ (IsShown old k ⊎ Contains noted k)
