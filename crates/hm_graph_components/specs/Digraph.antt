-- Directed graphs as lists of successors, reachability, and groups of mutual reach.
use Rattle.std.specs.Prelude.{ℕ, ◌≡◌, ◌<◌, ◌≤◌, ◌⊎◌, ◌↔◌, List, [], map, length, take, slice_index_or, Contains, Vec}
use Rattle.std.specs.List.{concat}
use Rattle.std.specs.List.Sorted.{IsStrictlyIncreasing}
use Rattle.std.specs.declared.alloc.Global.{Global}
use Rattle.hm_graph_components.specs.Closure.{Closure}

-- the model of a digraph: for each node the list of the targets of its edges
abbrev pub Graph : Type 0
Graph = List (List ℕ)

abbrev pub Edge : Graph → ℕ → ℕ → Type 0
Edge graph from to = Contains (slice_index_or graph from []) to

-- one or more edges lead from one node to the other
abbrev pub Reaches : Graph → ℕ → ℕ → Type 0
Reaches graph = Closure (Edge graph)

-- the new graph has the old one's nodes and edges, the edge from `from` to `to`, and nothing else
pub record AddsEdge (old new : Graph) (from to : ℕ) : Type 0 where
  pub nodes : length new ≡ length old
  pub edges : (x y : ℕ) → Edge new x y ↔ (Edge old x y ⊎ ((x ≡ from) × (y ≡ to)))

-- two nodes of one group: one node, or two that reach each other
abbrev pub IsTogether : Graph → ℕ → ℕ → Type 0
IsTogether graph x y = (x ≡ y) ⊎ (Reaches graph x y × Reaches graph y x)

-- the group of the node x, ascending
pub record IsGroupOf (graph : Graph) (x : ℕ) (group : List ℕ) : Type 0 where
  pub members : (y : ℕ) → Contains group y ↔ ((y < length graph) × IsTogether graph x y)
  pub ascending : IsStrictlyIncreasing group

-- the group of the node x may come after the nodes `before`: x isn't among them, and all nodes outside the group that it reaches are
pub record MayCome (graph : Graph) (before : List ℕ) (x : ℕ) : Type 0 where
  pub node : x < length graph
  pub absent : ¬ Contains before x
  pub after : (y : ℕ) → Reaches graph x y → Contains before y ⊎ Reaches graph y x

-- the next group after the nodes `before`: that of the least node whose group may come
pub record IsNext (graph : Graph) (before group : List ℕ) : Type 0 where
  pub least : ℕ
  pub may_come : MayCome graph before least
  pub first : (y : ℕ) → MayCome graph before y → least ≤ y
  pub group_of : IsGroupOf graph least group

-- the groups of a graph in their order: each is the next after those before it, and no node is left
pub record AreGroups (graph : Graph) (groups : List (List ℕ)) : Type 0 where
  pub each : (i : ℕ) → i < length groups → IsNext graph (concat (take i groups)) (slice_index_or groups i [])
  pub all : (x : ℕ) → x < length graph → Contains (concat groups) x

-- the lists in a list of vectors
abbrev pub lists : {X : Type 0} → List (Vec X Global) → List (List X)
lists rows = map (λ row. row.items) rows
