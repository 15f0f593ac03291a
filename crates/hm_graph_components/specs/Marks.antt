-- The tables of the search and of the placing of groups. No public clause names these.
use Rattle.std.specs.Prelude.{ℕ, ◌≡◌, ◌≢◌, ◌+◌, ◌<◌, ◌⊎◌, ◌↔◌, Bool, true, false, not, List, length, slice_index_or, Contains, count_by, Vec, []}
use Rattle.std.specs.List.Sorted.{IsStrictlyIncreasing}
use Rattle.std.specs.declared.alloc.Global.{Global}
use Rattle.hm_graph_components.specs.Digraph.{Graph, Reaches, lists}

abbrev pub IsMarked : List Bool → ℕ → Type 0
IsMarked marks k = slice_index_or marks k false ≡ true

-- the work to do: the number of nodes without a mark and of those that wait
abbrev pub work_left : List Bool → List ℕ → ℕ
work_left marks waiting = count_by not marks + length waiting

-- each number of `row` now has a mark, and waits if it had none
pub record MarksRow (row : List ℕ) (old new : List Bool) (waiting_old waiting_new : List ℕ) : Type 0 where
  pub nodes : length new ≡ length old
  pub marks : (k : ℕ) → IsMarked new k ↔ (IsMarked old k ⊎ Contains row k)
  pub from_row : (k : ℕ) → Contains waiting_new k → Contains waiting_old k ⊎ Contains row k
  pub kept : (k : ℕ) → Contains waiting_old k → Contains waiting_new k
  pub added : (k : ℕ) → Contains row k → IsMarked old k ⊎ Contains waiting_new k
  pub work : work_left new waiting_new ≡ work_left old waiting_old

-- the edges lead to nodes
abbrev pub IsClosed : Graph → Type 0
IsClosed graph = (x y : ℕ) → Contains (slice_index_or graph x []) y → y < length graph

-- the marks are at the nodes that `from` reaches
pub record MarksReached (graph : Graph) (from : ℕ) (marks : List Bool) : Type 0 where
  pub nodes : length marks ≡ length graph
  pub reached : (k : ℕ) → IsMarked marks k ↔ Reaches graph from k

-- the marks are at the nodes that had one, and at those that these reach
pub record Spreads (graph : Graph) (old new : List Bool) : Type 0 where
  pub nodes : length new ≡ length old
  pub marks : (k : ℕ) → IsMarked new k ↔ (IsMarked old k ⊎ ((j : ℕ) × (IsMarked old j × Reaches graph j k)))

-- the mark at y in the row of x
abbrev pub bit : List (Vec Bool Global) → ℕ → ℕ → Bool
bit table x y = slice_index_or (slice_index_or (lists table) x []) y false

abbrev pub IsSquare : List (Vec Bool Global) → ℕ → Type 0
IsSquare table n = (length table ≡ n) × ((x : ℕ) → x < n → length (slice_index_or (lists table) x []) ≡ n)

-- a row of marks for each node, at the nodes that it reaches
pub record IsTable (graph : Graph) (table : List (Vec Bool Global)) : Type 0 where
  pub square : IsSquare table (length graph)
  pub reached : (x y : ℕ) → x < length graph → (bit table x y ≡ true) ↔ Reaches graph x y

-- the node y blocks the group of x: x reaches y, y doesn't reach x, and y isn't placed
pub record Blocks (table : List (Vec Bool Global)) (placed : List Bool) (x y : ℕ) : Type 0 where
  pub ahead : bit table x y ≡ true
  pub not_back : bit table y x ≡ false
  pub unplaced : slice_index_or placed y false ≡ false

-- no node below its limit blocks x
abbrev pub AreLimits : List (Vec Bool Global) → List Bool → List ℕ → Type 0
AreLimits table placed limits = (x y : ℕ) → x < length limits → y < slice_index_or limits x 0 → ¬ Blocks table placed x y

-- the node isn't placed, and no node blocks it
pub record IsReady (table : List (Vec Bool Global)) (placed : List Bool) (x : ℕ) : Type 0 where
  pub node : x < length placed
  pub unplaced : slice_index_or placed x false ≡ false
  pub free : (y : ℕ) → y < length placed → ¬ Blocks table placed x y

-- the node is placed, or a node blocks it
abbrev pub IsHeld : List (Vec Bool Global) → List Bool → ℕ → Type 0
IsHeld table placed x = IsMarked placed x ⊎ ((y : ℕ) × (y < length placed) × Blocks table placed x y)

-- x, and the nodes that it reaches and that reach it
abbrev pub IsMember : List (Vec Bool Global) → ℕ → ℕ → Type 0
IsMember table x y = (x ≡ y) ⊎ ((bit table x y ≡ true) × (bit table y x ≡ true))

pub record IsRowOf (table : List (Vec Bool Global)) (x : ℕ) (group : List ℕ) : Type 0 where
  pub members : (y : ℕ) → Contains group y ↔ ((y < length table) × IsMember table x y)
  pub ascending : IsStrictlyIncreasing group

-- the numbers of `group` now have a mark, and so have those that had one
pub record PlacesGroup (group : List ℕ) (old new : List Bool) : Type 0 where
  pub nodes : length new ≡ length old
  pub marks : (k : ℕ) → IsMarked new k ↔ (IsMarked old k ⊎ Contains group k)

-- another node reaches the node and is reached by it
abbrev pub IsShared : Graph → ℕ → Type 0
IsShared graph x = (y : ℕ) × (x ≢ y) × Reaches graph x y × Reaches graph y x
