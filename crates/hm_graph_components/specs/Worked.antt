-- A worked example: a graph, and the orders of its nodes.
use Rattle.std.specs.Prelude.{[], ◌∷◌}
use Rattle.hm_graph_components.specs.Digraph.{Graph}
use Rattle.hm_graph_components.specs.NodeOrders.{IsOrder}

-- nodes 0 and 2 reach each other, and an edge leads from 2 to 1
abbrev pub three : Graph
three = (2 ∷ []) ∷ [] ∷ (0 ∷ 1 ∷ []) ∷ []

-- node 1 comes first, then 0 and 2 in any order. It doesn't come after 0, which reaches it through 2, and no node comes twice
pub record OrdersRow : Type 0 where
  pub first : IsOrder three (1 ∷ 0 ∷ 2 ∷ [])
  pub either : IsOrder three (1 ∷ 2 ∷ 0 ∷ [])
  pub behind : ¬ (IsOrder three (0 ∷ 1 ∷ 2 ∷ []))
  pub twice : ¬ (IsOrder three (1 ∷ 1 ∷ 0 ∷ 2 ∷ []))
