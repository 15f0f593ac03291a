-- The steps by which left out sources are found. No public clause names these.
use Rattle.std.specs.Prelude.{◌≡◌, ◌≢◌, ◌⊎◌, ◌↔◌, ℕ, ◌<◌, Bool, List, [], Contains, Option, Some, None, length, slice_index_or}
use Rattle.hm_graph.specs.Imports.{Modules, name_at}
use Rattle.hm_graph.specs.Numbering.{Numbers, number_of}
use Rattle.hm_graph_components.specs.Digraph.{Edge, Graph}
use Rattle.hm_graph_components.specs.Marks.{IsMarked}
use Rattle.hm_run_sources.specs.declared.located.Located.{Located}
use Rattle.hm_service_sources.specs.LeftOut.{ImportsFirst, IsInTheWay, outlines_of, source_at}

-- the table has the first of the first n modules of each name
pub record AreFirsts (modules : Modules) (n : ℕ) (numbers : Numbers) : Type 0 where
  pub some : (name : List ℕ) (k : ℕ) → number_of numbers name ≡ Some k → (k < n) × ((name_at modules k ≡ name) × ((j : ℕ) → j < k → name_at modules j ≢ name))
  pub none : (name : List ℕ) → number_of numbers name ≡ None → (k : ℕ) → k < n → name_at modules k ≢ name

-- the modules that each of the first n modules imports
pub record AreImportRows (modules : Modules) (n : ℕ) (rows : Graph) : Type 0 where
  pub as_many : length rows ≡ n
  pub each : (m k : ℕ) → m < n → Contains (slice_index_or rows m []) k ↔ ImportsFirst modules m k

-- the marks are at the modules that are in the way
pub record AreWayMarks (modules : Modules) (n : ℕ) (marks : List Bool) : Type 0 where
  pub as_many : length marks ≡ n
  pub each : (m : ℕ) → m < n → IsMarked marks m ↔ IsInTheWay modules m

-- the marks are at the sources of the first n modules that have a mark
pub record AreMarksBelow (located : List Located) (ways : List Bool) (sources n : ℕ) (marks : List Bool) : Type 0 where
  pub as_many : length marks ≡ sources
  pub each : (s : ℕ) → IsMarked marks s ↔ ((m : ℕ) × ((m < n) × ((source_at located m ≡ s) × IsMarked ways m)))

abbrev pub AreOwnMarks : List Located → List Bool → ℕ → List Bool → Type 0
AreOwnMarks located ways sources marks = AreMarksBelow located ways sources (length located) marks

-- an edge to the source of the module from that of each member of the row
pub record AddsRow (located : List Located) (row : List ℕ) (number : ℕ) (old new : Graph) : Type 0 where
  pub nodes : length new ≡ length old
  pub edges : (t s : ℕ) → Edge new t s ↔ (Edge old t s ⊎ ((k : ℕ) × (Contains row k × ((source_at located k ≡ t) × (source_at located number ≡ s)))))

-- the edges are those of the imports of the first n modules
pub record AreEdgesBelow (located : List Located) (sources n : ℕ) (graph : Graph) : Type 0 where
  pub nodes : length graph ≡ sources
  pub edges : (t s : ℕ) → Edge graph t s ↔ ((a : ℕ) × ((b : ℕ) × ((a < n) × (ImportsFirst (outlines_of located) a b × ((source_at located b ≡ t) × (source_at located a ≡ s))))))

abbrev pub AreSourceEdges : List Located → ℕ → Graph → Type 0
AreSourceEdges located sources graph = AreEdgesBelow located sources (length located) graph
