-- Graphs with reversed edges. No public clause names these.
use Rattle.std.specs.Prelude.{ℕ, ◌≡◌, ◌<◌, ◌⊎◌, List, length, Contains}
use Rattle.hm_graph_components.specs.Digraph.{Graph, Edge}

-- the new edges lead from the numbers of the row to `from`
pub record ReversesRow (old new : Graph) (row : List ℕ) (from : ℕ) : Type 0 where
  pub len : length new ≡ length old
  pub edges : (y x : ℕ) → Edge new y x → Edge old y x ⊎ ((x ≡ from) × Contains row y)

-- each edge is a reversed edge of the first n rows
pub record IsReversed (rows : Graph) (n : ℕ) (back : Graph) : Type 0 where
  pub len : length back ≡ length rows
  pub edges : (y x : ℕ) → Edge back y x → (x < n) × Edge rows x y
