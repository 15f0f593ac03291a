-- The declarations of each node's binding. Only functions of this crate and of inference cite it.
use Rattle.std.specs.Prelude.{◌≡◌, ℕ, ◌<◌, ◌↔◌, List, length, drop, Some}
use Rattle.hm_graph_components.specs.Digraph.{Edge}
use Rattle.hm_syntax.specs.Trees.{Declaration}
use Rattle.hm_syntax.specs.Lists.{declarations}
use Rattle.hm_infer_dependencies.specs.Nodes.{owner}

-- the row of each node has the places of its declarations
pub record AreRows (decls : List Declaration) (count : ℕ) (rows : List (List ℕ)) : Type 0 where
  pub size : length rows ≡ count
  pub each : (own place : ℕ) → Edge rows own place ↔ ((place < length decls) × (owner (declarations decls) (declarations (drop place decls)) ≡ Some own))
