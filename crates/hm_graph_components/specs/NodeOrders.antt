-- Orders of the nodes of a graph in which each comes after those that it reaches.
use Rattle.std.specs.Prelude.{ℕ, ◌≢◌, ◌<◌, ◌⊎◌, List, length, take, slice_index, Contains}
use Rattle.std.specs.List.{AllPairs}
use Rattle.hm_graph_components.specs.Digraph.{Graph, Reaches}

-- each node is in the order once, after all nodes that it reaches, except those that reach it too
pub record IsOrder (graph : Graph) (order : List ℕ) : Type 0 where
  pub all : (x : ℕ) → x < length graph → Contains order x
  pub nodes : (i : ℕ) → i < length order → slice_index order i < length graph
  pub once : AllPairs (λ x y. x ≢ y) order
  pub after : (i y : ℕ) → i < length order → Reaches graph (slice_index order i) y → Contains (take i order) y ⊎ Reaches graph y (slice_index order i)
