-- The parts of the test of a list of groups. No public clause names these.
use Rattle.std.specs.Prelude.{ℕ, ◌≡◌, ◌+◌, ◌<◌, ◌≤◌, ◌⊎◌, Bool, List, [], length, slice_index_or, Contains, All}
use Rattle.std.specs.List.Sorted.{IsStrictlyIncreasing}
use Rattle.hm_graph_components.specs.Digraph.{Graph, Edge, Reaches}
use Rattle.hm_graph_components.specs.Marks.{IsMarked, work_left}

-- the number of the list with the node x
abbrev pub number_of : List ℕ → ℕ → ℕ
number_of numbers x = slice_index_or numbers x 0

-- the least member of list i
abbrev pub least_of : List ℕ → ℕ → ℕ
least_of leasts i = slice_index_or leasts i 0

-- each node has the number of a list that it is in
pub record IsCovered (groups : List (List ℕ)) (nodes : ℕ) (numbers : List ℕ) : Type 0 where
  pub len : length numbers ≡ nodes
  pub below : (x : ℕ) → x < nodes → number_of numbers x < length groups
  pub stands : (x : ℕ) → x < nodes → Contains (slice_index_or groups (number_of numbers x) []) x

-- each member of a list is a node with the list's number
abbrev pub AreMembers : List (List ℕ) → List ℕ → Type 0
AreMembers groups numbers = (i : ℕ) → i < length groups → All (λ x. (x < length numbers) × (number_of numbers x ≡ i)) (slice_index_or groups i [])

abbrev pub AllAscending : List (List ℕ) → Type 0
AllAscending groups = (i : ℕ) → i < length groups → IsStrictlyIncreasing (slice_index_or groups i [])

-- no list is empty, and these are the first members
pub record AreLeasts (groups : List (List ℕ)) (leasts : List ℕ) : Type 0 where
  pub len : length leasts ≡ length groups
  pub first : (i : ℕ) → i < length groups → (0 < length (slice_index_or groups i [])) × (least_of leasts i ≡ slice_index_or (slice_index_or groups i []) 0 0)

-- no edge leads to a later list
abbrev pub NoEdgeAhead : Graph → List ℕ → Type 0
NoEdgeAhead graph numbers = (x y : ℕ) → x < length graph → Edge graph x y → number_of numbers y ≤ number_of numbers x

-- the node is the least member of its list, or is reached from it
abbrev pub IsReachedWithin : Graph → List ℕ → List ℕ → ℕ → Type 0
IsReachedWithin graph numbers leasts x = (least_of leasts (number_of numbers x) ≡ x) ⊎ Reaches graph (least_of leasts (number_of numbers x)) x

-- each newly marked or waiting node is in the row, and in the list with this number
pub record MarksWithin (row : List ℕ) (number : ℕ) (numbers : List ℕ) (old new : List Bool) (waiting_old waiting_new : List ℕ) : Type 0 where
  pub nodes : length new ≡ length old
  pub marks : (k : ℕ) → IsMarked new k → IsMarked old k ⊎ (Contains row k × (number_of numbers k ≡ number))
  pub waits : (k : ℕ) → Contains waiting_new k → Contains waiting_old k ⊎ (Contains row k × (number_of numbers k ≡ number))
  pub work : work_left new waiting_new ≡ work_left old waiting_old

-- the earliest place of each list: 0, or directly after an earlier list to which it has an edge
pub record AreEarliestPlaces (graph : Graph) (numbers earliest : List ℕ) (count : ℕ) : Type 0 where
  pub len : length earliest ≡ count
  pub edge : (i : ℕ) → i < count → (slice_index_or earliest i 0 ≡ 0) ⊎ ((x y : ℕ) × (x < length graph) × (number_of numbers x ≡ i) × Edge graph x y × (number_of numbers y < i) × (slice_index_or earliest i 0 ≡ number_of numbers y + 1))

-- from its place to the place of list i, no least member is greater than that of list i
abbrev pub ArePlaces : List ℕ → List ℕ → Type 0
ArePlaces leasts places = (i : ℕ) → i < length places → (slice_index_or places i 0 ≤ i) × ((k : ℕ) → slice_index_or places i 0 ≤ k → k < i → least_of leasts k < least_of leasts i)

-- from its earliest place to its own, list i has the greatest least member
abbrev pub IsLeastFirst : List ℕ → List ℕ → Type 0
IsLeastFirst leasts earliest = (i k : ℕ) → i < length leasts → slice_index_or earliest i 0 ≤ k → k < i → least_of leasts k < least_of leasts i

-- each list is directly after one to which it has an edge, or as early as its first member allows
pub record IsOrdered (graph : Graph) (numbers leasts : List ℕ) : Type 0 where
  pub earliest : List ℕ
  pub are_earliest : AreEarliestPlaces graph numbers earliest (length leasts)
  pub least_first : IsLeastFirst leasts earliest
